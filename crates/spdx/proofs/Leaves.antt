-- The tree of a text that was read strictly is strict, and the printed text of each of its requirements is read back.
use Rattle.std.proofs.Common.{◌≡◌, ℕ, List, [], ◌∷◌, map, Result, Ok, Err, IfOk, IfErr, refl, ◌∙◌, ap, IsTrue}
use Rattle.spdx_requirement.specs.Rows.{Rows}
use Rattle.spdx_catalogue.specs.RowRules.{is_well_formed}
use Rattle.spdx_requirement.specs.declared.failure.Failure.{Failure}
use Rattle.spdx_requirement.specs.declared.failure.Failure.TheVariants.{Refused, Memory}
use Rattle.spdx_requirement.specs.Failures.{IfRefused}
use Rattle.spdx_lexer.specs.Modes.{strict}
use Rattle.spdx_lexer.specs.Words.{Word, Fault, Item, Placed, words}
use Rattle.spdx_lexer.specs.Reading.{said}
use Rattle.spdx_parser.specs.Tree.{Tree, Leaf, Join}
use Rattle.spdx_canonical.specs.NormalLaw.{EachLeaf, IsStrict}
use Rattle.spdx_canonical.proofs.Leaves.{IsGood}
use Rattle.spdx_canonical.proofs.NormalLaws.{good, good_reads}
use Rattle.spdx.specs.Value.{Written}
use Rattle.spdx.specs.Meaning.{IsReadFrom, ReadsBack}

-- ---- answers

pub if_ok : {T E : Type 0} {P Q : T → Type 0} (r : Result T E) → IfOk r P → ((x : T) → P x → Q x) → IfOk r Q
if_ok (Ok x) h f = f x h
if_ok (Err e) h f = tt

pub if_refused : {T E : Type 0} {P Q : E → Type 0} (r : Result T (Failure E)) → IfErr r (IfRefused P) → ((e : E) → P e → Q e) → IfErr r (IfRefused Q)
if_refused (Ok x) h f = tt
if_refused (Err (Refused e)) h f = f e h
if_refused (Err (Memory m)) h f = tt

pub said_words : (read : List Placed) → map said (map {B = Item} Ok read) ≡ map {B = Result Word Fault} Ok (words read)
said_words [] = refl
said_words (p ∷ read) = ap (λ (xs : List (Result Word Fault)). Ok p.0 ∷ xs) (said_words read)

module _ (c : Rows) (well : IsTrue (is_well_formed c)) where
  pub strictly_read : (text : List ℕ) (e : Written) → IsReadFrom c strict text e → IsStrict c e.tree
  strictly_read text e r = record { well_formed = well; text = text; words = words r.read; read = ap (map said) r.reads ∙ said_words r.read; means = r.meant.derived }

  -- a requirement is a tree, and its text is the normal one
  leaves_back : (t : Tree) → EachLeaf (IsGood c) t → EachLeaf (ReadsBack c) t
  leaves_back (Leaf r) h = good_reads c well (Leaf r) h
  leaves_back (Join o l r) h = (leaves_back l h.0, leaves_back r h.1)

  pub reads_back : (t : Tree) → IsStrict c t → EachLeaf (ReadsBack c) t
  reads_back t s = leaves_back t (good c t s)
