-- What is said of files and lines, and with which status commands end.
use Rattle.std.proofs.Common.{◌≡◌, ◌∙◌, ℕ, Bool, true, false, List, [], ◌∷◌, ◌++◌, String, ap, append-nil, arith, flat_map, refl, string_bytes, subst, sym}
use Rattle.std.specs.declared.alloc.Global.{Global}
use Rattle.std.specs.List.{AllZip}
use Rattle.std.proofs.lemmas.Grind.{flat_map-append}
use Rattle.check_files.specs.Told.{Account, Hears, Tells}
use Rattle.check_files.proofs.Doing.{hears_nil, hears_trans}
use Rattle.list_program.specs.Named.{InsideBytes}
use Rattle.list_told.specs.declared.shown.NameQuery.{NameQuery}
use Rattle.list_told.specs.declared.shown.Shown.{Shown}
use Rattle.list_told.specs.Shown.{TellsListed, status_of as shown_status}
use Rattle.meaning_program.specs.Compared.{TellsSame}
use Rattle.meaning_program.specs.Files.{IsRun, status_of as run_status}
use Rattle.meaning_program.specs.declared.compared.TextPair.{TextPair}
use Rattle.meaning_program.specs.declared.compared.Compared.{Compared}
use Rattle.meaning_program.specs.declared.files.FileEnd.{FileEnd}
use Rattle.meaning_program.specs.declared.files.Request as simplify
use Rattle.meaning_program.specs.declared.files.Run.{Run}
use Rattle.shelves.specs.Shelf.{Shelved}
use Rattle.meaning_program.specs.declared.simplified.UnmeantLine.{UnmeantLine}
use Rattle.spdx_commands.specs.Compare.{SaysSame, status_of}
use Rattle.spdx_commands.specs.Lists.{SaysListed}
use Rattle.spdx_commands.specs.Said.{AreSaid, text_of, told_of}
use Rattle.spdx_commands.specs.Simplify.{AreSaidOf, AreToldOf, AreUnmeant, IsSimplify, IsToldOf, IsUnmeant, is_unmeant, none, one_more, place_of}
use Rattle.spdx_commands.specs.declared.said.Said.{Said}
use Rattle.spdx_troubles.specs.declared.trouble.Trouble.{Trouble}
use Rattle.spdx_troubles.specs.declared.trouble.Trouble.TheVariants as trouble

pub zip_push : {A B : Type 0} (R : A → B → Type 0) (xs : List A) (ys : List B) (x : A) (y : B) → AllZip R xs ys → R x y
    → AllZip R (xs ++ x ∷ []) (ys ++ y ∷ [])
zip_push R [] [] x y h r = (r, tt)
zip_push R [] (b ∷ ys) x y h r = absurd h
zip_push R (a ∷ xs) [] x y h r = absurd h
zip_push R (a ∷ xs) (b ∷ ys) x y h r = (h.0, zip_push R xs ys x y h.1 r)

-- ---- what is said of files

pub no_file : AreSaidOf [] []
no_file = none

behind_all : {A : Type 0} (f : Said → List A) (all : List Said) (s : Said) → flat_map f all ++ f s ≡ flat_map f (all ++ s ∷ [])
behind_all f all s = sym (flat_map-append f all (s ∷ []) ∙ ap (λ (l : List _). flat_map f all ++ l) (append-nil (f s)))

-- and of one more
pub file_said : (files : List FileEnd) (file : FileEnd) (all all' : List Said) (s : Said) → AreSaidOf files all → IsToldOf file (text_of s) (told_of s) → all' ≡ all ++ s ∷ []
    → AreSaidOf (files ++ file ∷ []) all'
file_said files file all all' s first then is =
    let more = one_more files file (flat_map text_of all) (text_of s) (flat_map told_of all) (told_of s) first then in
    subst (AreSaidOf (files ++ file ∷ [])) (sym is)
    (subst (λ (text : List ℕ). AreToldOf (files ++ file ∷ []) text (flat_map told_of (all ++ s ∷ []))) (behind_all text_of all s)
    (subst (AreToldOf (files ++ file ∷ []) (flat_map text_of all ++ text_of s)) (behind_all told_of all s) more))

-- what is said of a run's files is said of the run
module _ (s : Shelved) (inside : InsideBytes) (a : simplify.Request) (run : Run) (all : List Said) (status : ℕ) where
  pub meant : IsRun s inside a run → AreSaidOf run.files.items all → status ≡ run_status run → IsSimplify s inside a (flat_map text_of all) (flat_map told_of all) status
  meant is said ends = record { run = run; is_run = is; told_are = said; status_is = ends }

  pub meant_as : (text : List ℕ) (told : List Trouble) → IsRun s inside a run → AreSaidOf run.files.items all → status ≡ run_status run → AreSaid all text told
      → IsSimplify s inside a text told status
  meant_as text told is said ends same =
      subst (λ (x : List ℕ). IsSimplify s inside a x told status) (sym same.0)
      (subst (λ (ts : List Trouble). IsSimplify s inside a (flat_map text_of all) ts status) (sym same.1) (meant is said ends))

pub no_line : (path : List ℕ) (heard : Account Trouble) → Tells heard heard (AreUnmeant path [])
no_line path heard = record { told = []; tells = hears_nil heard; is = tt }

pub line_told : (path : List ℕ) (h k l : Account Trouble) (lines : List UnmeantLine) (line : UnmeantLine) (place : String Global)
    → Tells h k (AreUnmeant path lines) → string_bytes place ≡ place_of path line.number → Hears k l (trouble.Unmeant place line.why ∷ [])
    → Tells h l (AreUnmeant path (lines ++ line ∷ []))
line_told path h k l lines line place p is tells = record {
  told = p.told ++ trouble.Unmeant place line.why ∷ [];
  tells = hears_trans h k l p.told (trouble.Unmeant place line.why ∷ []) p.tells tells;
  is = zip_push (IsUnmeant path) lines p.told line (trouble.Unmeant place line.why) p.is (is_unmeant is);
}

-- ---- the status of `compare` and `show`

zero_true : (b : Bool) → status_of b ≡ 0 → b ≡ true
zero_true true e = refl
zero_true false e = absurd (omega (arith, e))

pub says_same : (s : Shelved) (inside : InsideBytes) (a : TextPair) (told : Compared) (status : ℕ) → TellsSame s inside a told → status ≡ status_of told.is_same → SaysSame s inside a status
says_same s inside a told status h is = record {
  catalogue = h.catalogue;
  first = h.first;
  second = h.second;
  list_is = h.list_is;
  first_is = h.first_is;
  second_is = h.second_is;
  same = (λ e. h.same.0 (zero_true told.is_same (sym is ∙ e)), λ e. is ∙ ap status_of (h.same.1 e));
}

pub says_listed : (s : Shelved) (inside : InsideBytes) (a : NameQuery) (shown : Shown) (status : ℕ) → TellsListed s inside a shown → status ≡ shown_status shown → SaysListed s inside a status
says_listed s inside a shown status h is = record {
  catalogue = h.catalogue;
  list_is = h.list_is;
  listed = (λ e. h.listed.0 (sym is ∙ e), λ all. is ∙ h.listed.1 all);
}
