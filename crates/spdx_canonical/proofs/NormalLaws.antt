-- The normal text of a strict tree is read as that tree alone, with the fewest parentheses, and tells it.
use Rattle.std.proofs.Common.{◌≡◌, ℕ, List, [], ◌∷◌, map, Result, Ok, refl, sym, ◌∙◌, ap, subst, ◌↔◌, ◌≤◌, IsTrue}
use Rattle.spdx_requirement.specs.Rows.{Rows}
use Rattle.spdx_catalogue.specs.RowRules.{is_well_formed}
use Rattle.spdx_catalogue.proofs.Listed.{listed_is_license, listed_is_exception}
use Rattle.spdx_lexer.specs.Modes.{strict}
use Rattle.spdx_lexer.specs.Words.{Word, Spdx, Exception, OpenParen, Fault}
use Rattle.spdx_lexer.specs.Reading.{said, reading, Spells}
use Rattle.spdx_parser.specs.Tree.{Tree}
use Rattle.spdx_parser.specs.Grammar.{Derives}
use Rattle.spdx_parser.specs.Meaning.{IsOfRows}
use Rattle.spdx_parser.proofs.Threaded.{threaded}
use Rattle.spdx_parser.proofs.Complete.{the_only}
use Rattle.spdx_parser.proofs.Known.{AllKnown, tree_known}
use Rattle.spdx_canonical.proofs.Neighbours.{AreRead, apart}
use Rattle.spdx_canonical.proofs.Read.{are_read}
use Rattle.spdx_canonical.proofs.Plain.{plain}
use Rattle.spdx_canonical.specs.Normal.{normal_text}
use Rattle.spdx_canonical.specs.NormalLaw.{EachLeaf, IsStrict, ReadsAs, parens, HasFewestParens}
use Rattle.spdx_canonical.proofs.Leaves.{IsGood, or_good}
use Rattle.spdx_canonical.proofs.Words.{normal_words, normal_read, normal_words_text}
use Rattle.spdx_canonical.proofs.Derives.{normal_derived}
use Rattle.spdx_canonical.proofs.Fewest as Fewest

-- a text is read as one list of words
same_words : (ws vs : List Word) → ◌≡◌ {A = List (Result Word Fault)} (map Ok ws) (map Ok vs) → ws ≡ vs
same_words [] [] e = refl
same_words [] (v ∷ vs) e = absurd cc
same_words (w ∷ ws) [] e = absurd cc
same_words (w ∷ ws) (v ∷ vs) e =
    let heads : w ≡ v = cc in
    let tails : ◌≡◌ {A = List (Result Word Fault)} (map Ok ws) (map Ok vs) = cc in
    let rest = same_words ws vs tails in
    cc

module _ (c : Rows) where
  known : (t : Tree) (s : IsStrict c t) → AreRead c s.words
  known t s = are_read c s.well_formed strict refl OpenParen s.words (apart c strict s.words t s.means) 0 s.text s.read

  pub good : (t : Tree) → IsStrict c t → EachLeaf (IsGood c) t
  good t s = (or_good c (threaded c strict s.means) (known t s)).0

  -- the normal text of good requirements
  spells : IsTrue (is_well_formed c) → (t : Tree) → EachLeaf (IsGood c) t → Spells c strict (normal_text t) (normal_words t)
  spells well t h =
      let ws = normal_words t in
      subst (λ (x : List ℕ). Spells c strict x ws) (normal_words_text c t h) (plain c well strict OpenParen ws (apart c strict ws t (normal_derived c t h)) (normal_read c t h) 0)

  pub good_reads : IsTrue (is_well_formed c) → (t : Tree) → EachLeaf (IsGood c) t → ReadsAs c (normal_text t) t
  good_reads well t h = record { words = normal_words t; read = spells well t h; meant = the_only c strict (normal_words t) t (normal_derived c t h) }

  pub reads : (t : Tree) → IsStrict c t → ReadsAs c (normal_text t) t
  reads t s = good_reads s.well_formed t (good t s)

  pub fewest : (t : Tree) → IsStrict c t → HasFewestParens c (normal_text t) t
  fewest t s ws other e d =
      let same : normal_words t ≡ ws = same_words (normal_words t) ws (sym (spells s.well_formed t (good t s)) ∙ e) in
      subst (λ (x : List Word). parens x ≤ parens other) same (Fewest.fewest c strict t other d)

  -- equal texts mean equal trees
  pub tells : (t u : Tree) → IsStrict c t → IsStrict c u → (normal_text t ≡ normal_text u) ↔ (t ≡ u)
  tells t u s r =
      let a = reads t s in
      let b = reads u r in
      let forth : normal_text t ≡ normal_text u → t ≡ u = λ e.
      let same = same_words a.words b.words (sym a.read ∙ ap (λ (x : List ℕ). map said (reading c strict 0 x)) e ∙ b.read) in
      b.meant.only t (subst (λ (ws : List Word). Derives c strict ws t) same a.meant.derived) in
      (forth, λ e. ap normal_text e)

  -- ---- the rows of a strict tree

  rows_known : IsTrue (is_well_formed c) → (ws : List Word) → AreRead c ws → AllKnown c ws
  rows_known well [] h = tt
  rows_known well (Spdx r ∷ ws) h = (listed_is_license c well r.name r h.0, rows_known well ws h.1)
  rows_known well (Exception r ∷ ws) h = (listed_is_exception c well r.name r h.0.1, rows_known well ws h.1)
  rows_known well (_ ∷ ws) h = (tt, rows_known well ws h.1)

  pub strict_rows : (t : Tree) → IsStrict c t → IsOfRows c t
  strict_rows t s = tree_known c s.well_formed strict s.words t (rows_known s.well_formed s.words (known t s)) s.means
