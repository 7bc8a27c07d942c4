-- What the canonical text of an accepted expression is good for.
use Rattle.std.specs.Prelude.{◌≡◌, ◌↔◌, ℕ, Bool, false, not, List, [], ◌∷◌, None, Ok, codes, nat_eq, IsTrue}
use Rattle.std.specs.List.{starts_with}
use Rattle.std.specs.Option.{option_map_or}
use Rattle.spdx_requirement.specs.Rows.{Rows, LicenseRow}
use Rattle.spdx_requirement.specs.Flags.{is_deprecated}
use Rattle.spdx_catalogue.specs.LookUps as LookUps
use Rattle.spdx_requirement.specs.Items.{LicenseTerm, listed, referred}
use Rattle.spdx_lexer.specs.declared.token.ParseMode.{ParseMode}
use Rattle.spdx_lexer.specs.Modes.{strict, lax}
use Rattle.spdx_lexer.specs.Words.{Word, Spdx}
use Rattle.spdx_lexer.specs.Reading.{Spells}
use Rattle.spdx_parser.specs.Tree.{Tree, Leaf, Join}
use Rattle.spdx_parser.specs.Grammar.{Derives, IsTheTree}
use Rattle.spdx_canonical.specs.Canonical.{written_name, plus_follows, canonical_text, only_row, canonical_words, canonical_of}

-- ---- the names that are written

-- P holds of each licence's name in the canonical text of the words
abbrev pub EachName : (List ℕ → Type 0) → List Word → Type 0
EachName P [] = Unit {0}
EachName P (Spdx r ∷ ws) = P (written_name (plus_follows ws) r) × EachName P ws
EachName P (_ ∷ ws) = EachName P ws

-- a listed licence has the name, and it is not deprecated
abbrev pub is_good : Rows → List ℕ → Bool
is_good c name =
    option_map_or (λ (r : LicenseRow). not (is_deprecated r.flags)) (LookUps.listed c.licenses name)
    false

-- the name reads as a reference, since it is on no list
pub record IsReferenceName (c : Rows) (name : List ℕ) : Type 0 where
  pub no_license : LookUps.listed c.licenses name ≡ None
  pub no_exception : LookUps.listed_exception c.exceptions name ≡ None
  pub prefix : IsTrue (starts_with nat_eq name (codes "LicenseRef-"))

-- ---- the tree

-- the tree with f of each licence in it
abbrev pub tree_by : (LicenseTerm → LicenseTerm) → Tree → Tree
tree_by f (Leaf r) = Leaf (record { license = f r.license; addition = r.addition })
tree_by f (Join o l r) = Join o (tree_by f l) (tree_by f r)

-- a listed licence whose row `only_row` says; a reference stays
abbrev pub only_license : Rows → LicenseTerm → LicenseTerm
only_license c (listed r marked) = listed (only_row c r) marked
only_license c (referred r) = referred r

-- ---- the laws

-- a reader in this mode accepts the text: it finds these words, without a fault, and they mean this
-- tree
pub record Accepts (c : Rows) (m : ParseMode) (text : List ℕ) (ws : List Word)
    (t : Tree) : Type 0 where
  pub read : Spells c m text ws
  pub meant : Derives c m ws t

-- A lax reader accepts the text, and each name that its canonical text writes is good.
pub record IsSound (c : Rows) (text : List ℕ) (ws : List Word) (t : Tree) : Type 0 where
  pub accepted : Accepts c lax text ws t
  pub good : EachName (λ name. IsTrue (is_good c name)) ws

-- The canonical text of the words ws, which mean t: a strict reader finds the canonical words in
-- it, and for them the tree with each bare GNU licence made `-only`, and no other; it is its own
-- canonical text, and that of the canonical words.
pub record IsFaithful (c : Rows) (ws : List Word) (t : Tree) : Type 0 where
  pub read : Spells c strict (canonical_text ws) (canonical_words c ws)
  pub meant : IsTheTree c strict (canonical_words c ws) (tree_by (only_license c) t)
  pub again : canonical_of c (canonical_text ws) ≡ Ok (canonical_text ws)
  pub written : canonical_text (canonical_words c ws) ≡ canonical_text ws

-- what is said of each text that a lax reader accepts
pub record CanonicalLaws (c : Rows) (text : List ℕ) : Type 0 where
  -- each text that a lax reader accepts has a canonical text
  pub defined : (ws : List Word) (t : Tree) → Accepts c lax text ws t →
      canonical_of c text ≡ Ok (canonical_text ws)
  pub faithful : (ws : List Word) (t : Tree) → IsSound c text ws t → IsFaithful c ws t
  -- equal canonical texts are those of equal canonical words
  pub telling : (ws : List Word) (t : Tree) → IsSound c text ws t →
      (other : List ℕ) (vs : List Word) (u : Tree) → IsSound c other vs u →
      (canonical_text ws ≡ canonical_text vs) ↔ (canonical_words c ws ≡ canonical_words c vs)
  -- where some names are not good, a strict reader accepts it exactly if each of these reads as a
  -- reference
  pub otherwise : (ws : List Word) (t : Tree) → Accepts c lax text ws t →
      ((vs : List Word) × (u : Tree) × Accepts c strict (canonical_text ws) vs u) ↔
      EachName (λ name. is_good c name ≡ false → IsReferenceName c name) ws
