-- Which lines two lists have, and what that says of their rows.
use Rattle.std.proofs.Common.{◌≡◌, ℕ, Bool, true, false, cond, List, [], ◌∷◌, ◌++◌, All, Contains, filter, flat_map, find, ap, inl, inr, refl, sym, subst, ◌∙◌}
use Rattle.std.specs.Prelude.{IsTrue, None, Option, Some, ◌&&◌, ◌==◌, bytes_eq, slice_get}
use Rattle.std.specs.Option as std
use Rattle.std.proofs.lemmas.Bool.Decides.{Decides-eqb}
use Rattle.std.proofs.lemmas.List.{append-nil, append_assoc}
use Rattle.std.proofs.lemmas.List.Elements.{All-contains_itself, All-cons, All-head, All-nil, All-tail, All-weaker}
use Rattle.std.proofs.lemmas.Option.{slice_get-get_or}
use Rattle.std.proofs.lemmas.Slice.Eq.{bytes_eq-Decides}
use Rattle.shelves.specs.Shelf.{Shelved}
use Rattle.spdx_requirement.specs.Rows.{ExceptionRow, LicenseRow, Rows, exception_name, license_name}
use Rattle.spdx_catalogue.specs.RowRules.{is_well_formed}
use Rattle.spdx_catalogue.proofs.Listed.{exception_of_place, exception_own_name, license_of_place, license_own_name}
use Rattle.spdx_list.specs.Diff.{change, changes, is_none, is_same_exception, is_same_license, named, only_here, with_change}
use Rattle.spdx_list.specs.Files.{ExtraRows}
use Rattle.spdx_list.proofs.Told.{tells_each}
use Rattle.std.specs.Option.{option_copied}
use Rattle.list_program.specs.declared.trouble.ListTrouble.{ListTrouble}
use Rattle.list_program.specs.Named.{InsideBytes, IsListAt, IsNamedList}
use Rattle.list_program.specs.Troubles.{AreNoExtras}
use Rattle.list_told.specs.declared.differing.Lists.{Lists}
use Rattle.list_told.specs.Changes.{IsExceptionChange, IsLicenseChange, added_exception, added_license, removed_line}
use Rattle.list_told.specs.Diffs.{AreTold, AreExceptionsTold, AreLicensesTold, IsDiff, IsDiffOf, IsNoDiff, TellsEachRow, TellsSame, head_line}
use Rattle.list_told.specs.Texts.{AreTexts, none}
use Rattle.list_told.proofs.Listing.{all_dropped, is_found}

-- the lines of rows that are these
pub told_by : {A : Type 0} (name_of : A → List ℕ) (added_line : A → List ℕ) (P : A × A → List ℕ → Type 0)
    (added removed came went : List A) (changed differ : List (A × A)) (rest text : List ℕ)
    → came ≡ added → went ≡ removed → differ ≡ changed → AreTexts P differ rest
    → text ≡ flat_map added_line came ++ (flat_map (λ r. removed_line (name_of r)) went ++ rest)
    → AreTold name_of added_line P added removed changed text
told_by {A} name_of added_line P added removed came went changed differ rest text a r c h e = record {
  rest = rest;
  changes_are = subst (λ (z : List (A × A)). AreTexts P z rest) c h;
  text_is = e ∙ ap (λ (z : List A). flat_map added_line z ++ (flat_map (λ r. removed_line (name_of r)) went ++ rest)) a
      ∙ ap (λ (z : List A). flat_map added_line added ++ (flat_map (λ r. removed_line (name_of r)) z ++ rest)) r;
}

-- three parts, one behind the other
pub three : (begun first second all a b c : List ℕ) → begun ≡ [] → first ≡ begun ++ a → second ≡ first ++ b → all ≡ second ++ c
    → all ≡ a ++ (b ++ c)
three begun first second all a b c e0 e1 e2 e3 =
    e3 ∙ ap (λ (z : List ℕ). z ++ c) (e2 ∙ ap (λ (z : List ℕ). z ++ b) (e1 ∙ ap (λ (z : List ℕ). z ++ a) e0)) ∙ append_assoc a b c

pub each_row : (s : Shelved) (inside : InsideBytes) (replacements : List ℕ) (a : Lists) (text : List ℕ)
    → IsDiff s inside replacements a text → TellsEachRow s inside a text
each_row s inside replacements a text is =
    let old = is.old in
    let new = is.new in
    let diff = is.diff_is.2 in
    record {
      old = old;
      new = new;
      extras = is.diff_is.0;
      licenses = diff.licenses;
      exceptions = diff.exceptions;
      lists = is.lists;
      licenses_are = record {
        added = only_here license_name new.licenses old.licenses;
        removed = only_here license_name old.licenses new.licenses;
        changed = changes license_name is_same_license old.licenses new.licenses;
        each = tells_each license_name is_same_license old.licenses new.licenses;
        told = diff.licenses_are;
      };
      exceptions_are = record {
        added = only_here exception_name new.exceptions old.exceptions;
        removed = only_here exception_name old.exceptions new.exceptions;
        changed = changes exception_name is_same_exception old.exceptions new.exceptions;
        each = tells_each exception_name is_same_exception old.exceptions new.exceptions;
        told = diff.exceptions_are;
      };
      text_is = diff.text_is;
    }

pub no_replacements : (s : Shelved) (inside : InsideBytes) (replacements : List ℕ) (a : Lists) (old new : Rows) (t : ListTrouble)
    → IsNamedList s inside (option_copied a.old) old → IsListAt s inside.extras a.new.now new → AreNoExtras replacements t → IsNoDiff s inside replacements a t
no_replacements s inside replacements a old new t first second why = inr (inr (old, new, record { old_is = first; new_is = second }, why))

-- ---- of lists with the same rows nothing is told

is_there : {A : Type 0} (o : Option A) → std.is_none o ≡ false → is_none o ≡ false
is_there None e = e
is_there (Some x) e = refl

module _ {A : Type 0} (name_of : A → List ℕ) (is_same : A → A → Bool) where
  none_alone : (rows : List A) → only_here name_of rows rows ≡ []
  none_alone rows =
      all_dropped (λ r. is_none (named name_of rows (name_of r))) rows
      (All-weaker (Contains rows) (λ r. is_none (named name_of rows (name_of r)) ≡ false) found rows (All-contains_itself rows))
    where
      found : (r : A) → Contains rows r → is_none (named name_of rows (name_of r)) ≡ false
      found r has =
          is_there (named name_of rows (name_of r))
          (is_found (λ y. bytes_eq (name_of y) (name_of r)) rows r has ((bytes_eq-Decides (name_of r) (name_of r)).1 refl))

  none_changed : ((r : A) → is_same r r ≡ true) → (olds news : List A) → All (λ r. named name_of olds (name_of r) ≡ Some r) news
      → changes name_of is_same olds news ≡ []
  none_changed same olds [] h = refl
  none_changed same olds (r ∷ rs) h =
      let rest = none_changed same olds rs (All-tail (λ r. named name_of olds (name_of r) ≡ Some r) r rs h) in
      ap (λ (o : Option A). with_change (change is_same o r) (changes name_of is_same olds rs)) (All-head (λ r. named name_of olds (name_of r) ≡ Some r) r rs h)
      ∙ ap (λ (b : Bool). with_change (cond b None (Some (r, r))) (changes name_of is_same olds rs)) (same r) ∙ rest

  nothing : (added_line : A → List ℕ) (P : A × A → List ℕ → Type 0) (added removed : List A) (changed : List (A × A)) (text : List ℕ)
      → added ≡ [] → removed ≡ [] → changed ≡ [] → AreTold name_of added_line P added removed changed text → text ≡ []
  nothing added_line P added removed changed text a r c is =
      is.text_is ∙ ap (λ (z : List A). flat_map added_line z ++ (flat_map (λ r. removed_line (name_of r)) removed ++ is.rest)) a
      ∙ ap (λ (z : List A). flat_map (λ r. removed_line (name_of r)) z ++ is.rest) r
      ∙ silent is.rest (subst (λ (z : List (A × A)). AreTexts P z is.rest) c is.changes_are)
    where
      silent : (rest : List ℕ) → AreTexts P [] rest → rest ≡ []
      silent rest none = refl

license_itself : (r : LicenseRow) → is_same_license r r ≡ true
license_itself r = rw ((bytes_eq-Decides r.full_name r.full_name).1 refl) ((Decides-eqb r.flags r.flags).1 refl)

exception_itself : (r : ExceptionRow) → is_same_exception r r ≡ true
exception_itself r = (Decides-eqb r.flags r.flags).1 refl

module _ (c : Rows) (well : is_well_formed c ≡ true) where
  own_license : (r : LicenseRow) → Contains c.licenses r → named license_name c.licenses r.name ≡ Some r
  own_license r has =
      license_own_name c well r (license_of_place c well has.0 r (slice_get-get_or c.licenses has.0 r has.1 ∙ ap Some has.2))

  own_exception : (r : ExceptionRow) → Contains c.exceptions r → named exception_name c.exceptions r.name ≡ Some r
  own_exception r has =
      exception_own_name c well r (exception_of_place c well has.0 r (slice_get-get_or c.exceptions has.0 r has.1 ∙ ap Some has.2))

  same_licenses : changes license_name is_same_license c.licenses c.licenses ≡ []
  same_licenses =
      none_changed license_name is_same_license license_itself c.licenses c.licenses
      (All-weaker (Contains c.licenses) (λ r. named license_name c.licenses r.name ≡ Some r) own_license c.licenses (All-contains_itself c.licenses))

  same_exceptions : changes exception_name is_same_exception c.exceptions c.exceptions ≡ []
  same_exceptions =
      none_changed exception_name is_same_exception exception_itself c.exceptions c.exceptions
      (All-weaker (Contains c.exceptions) (λ r. named exception_name c.exceptions r.name ≡ Some r) own_exception c.exceptions (All-contains_itself c.exceptions))

pub tells_same : (old new : Rows) (x : ExtraRows) (text : List ℕ) → is_well_formed old ≡ true → IsDiffOf old new x text
    → old.licenses ≡ new.licenses → old.exceptions ≡ new.exceptions → text ≡ head_line old.version new.version
tells_same old new x text well is ls es =
    is.text_is ∙ ap (λ (t : List ℕ). head_line old.version new.version ++ (t ++ is.exceptions)) no_licenses
    ∙ ap (λ (t : List ℕ). head_line old.version new.version ++ t) no_exceptions ∙ append-nil (head_line old.version new.version)
  where
    no_licenses : is.licenses ≡ []
    no_licenses =
        nothing license_name is_same_license added_license (IsLicenseChange new x)
        (only_here license_name old.licenses old.licenses) (only_here license_name old.licenses old.licenses)
        (changes license_name is_same_license old.licenses old.licenses) is.licenses
        (none_alone license_name is_same_license old.licenses) (none_alone license_name is_same_license old.licenses) (same_licenses old well)
        (subst (λ (z : List LicenseRow). AreLicensesTold new x (only_here license_name z old.licenses) (only_here license_name old.licenses z)
        (changes license_name is_same_license old.licenses z) is.licenses) (sym ls) is.licenses_are)

    no_exceptions : is.exceptions ≡ []
    no_exceptions =
        nothing exception_name is_same_exception added_exception (IsExceptionChange new x)
        (only_here exception_name old.exceptions old.exceptions) (only_here exception_name old.exceptions old.exceptions)
        (changes exception_name is_same_exception old.exceptions old.exceptions) is.exceptions
        (none_alone exception_name is_same_exception old.exceptions) (none_alone exception_name is_same_exception old.exceptions) (same_exceptions old well)
        (subst (λ (z : List ExceptionRow). AreExceptionsTold new x (only_here exception_name z old.exceptions) (only_here exception_name old.exceptions z)
        (changes exception_name is_same_exception old.exceptions z) is.exceptions) (sym es) is.exceptions_are)
