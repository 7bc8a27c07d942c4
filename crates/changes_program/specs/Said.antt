-- What is said of each change.
use Rattle.std.specs.Prelude.{◌≡◌, ℕ, List, [], ◌∷◌, ◌++◌, Option, None, Some, codes, flat_map, map, option_map, string_bytes}
use Rattle.spdx_requirement.specs.Rows.{Rows}
use Rattle.spdx_meaning.specs.declared.relation.Relation.{Relation}
use Rattle.spdx_meaning.specs.declared.relation.Relation.TheVariants as relation
use Rattle.spdx_meaning.specs.declared.comparison.Comparison.{Comparison}
use Rattle.package_changes.specs.declared.change.LicenseChange.{LicenseChange}
use Rattle.package_changes.specs.declared.change.LicenseChange.TheVariants as change
use Rattle.package_changes.specs.declared.change.reading.Untold.{Untold}
use Rattle.package_changes.specs.declared.change.reading.Untold.TheVariants as untold
use Rattle.package_changes.specs.Changing.{IsLicenseChange}
use Rattle.package_changes.specs.declared.package.Package.{Package}
use Rattle.package_changes.specs.Rows.{ChangeRow, Row, came, row_of, stayed, went}
use Rattle.package_changes.specs.declared.tellings.How.{How}
use Rattle.package_changes.specs.declared.tellings.How.TheVariants as how
use Rattle.package_changes.specs.declared.tellings.Reason.{Reason}
use Rattle.package_changes.specs.declared.tellings.Reason.TheVariants as reason
use Rattle.changes_program.specs.declared.said.Said.{Said}

-- how a package changed; what was enough before and isn't now, and the other way round; and why
-- that can't be told
pub record SaidRow : Type 0 where
  pub how : How
  pub old : Option Row
  pub new : Option Row
  pub enough_before : List ℕ
  pub enough_now : List ℕ
  pub untold_before : Reason
  pub untold_now : Reason

abbrev pub row_if : Option Package → Option Row
row_if p = option_map row_of p

abbrev pub said_row : Said → SaidRow
said_row s = record {
  how = s.how;
  old = row_if s.old;
  new = row_if s.new;
  enough_before = string_bytes s.enough_before;
  enough_now = string_bytes s.enough_now;
  untold_before = s.untold_before;
  untold_now = s.untold_now;
}

abbrev pub shown : Option Said → Option SaidRow
shown s = option_map said_row s

abbrev pub bare : How → Option Row → Option Row → SaidRow
bare how old new = record {
  how = how;
  old = old;
  new = new;
  enough_before = [];
  enough_now = [];
  untold_before = reason.Told;
  untold_now = reason.Told;
}

-- ---- a licence that changed

-- what the newer licence asks beside the older one
abbrev pub how_of : Relation → How
how_of relation.Same = how.SameMeaning
how_of relation.More = how.Less
how_of relation.Less = how.More
how_of relation.Neither = how.Other

abbrev pub reason_of : Option Untold → Reason
reason_of None = reason.Told
reason_of (Some untold.Unstated) = reason.Unstated
reason_of (Some untold.Unread) = reason.Unread
reason_of (Some (untold.TooManySets many)) = reason.TooManySets

abbrev pub other : List ℕ → List ℕ
other name = codes " AND " ++ name

abbrev pub others : List (List ℕ) → List ℕ
others names = flat_map other names

-- the expression that asks for all of these
abbrev pub all_of : List (List ℕ) → List ℕ
all_of [] = []
all_of (name ∷ names) = name ++ others names

abbrev pub all_if : Option (List (List ℕ)) → List ℕ
all_if None = []
all_if (Some names) = all_of names

abbrev pub said_comparison : Row → Row → Comparison → SaidRow
said_comparison old new x = record {
  how = how_of x.relation;
  old = Some old;
  new = Some new;
  enough_before = all_if (option_map (λ names. map string_bytes names.items) x.first_alone);
  enough_now = all_if (option_map (λ names. map string_bytes names.items) x.second_alone);
  untold_before = reason.Told;
  untold_now = reason.Told;
}

abbrev pub said_untold : Row → Row → Option Untold → Option Untold → SaidRow
said_untold old new before after =
    record (bare how.Untold (Some old) (Some new)) {
      untold_before = reason_of before;
      untold_now = reason_of after;
    }

-- nothing is said of a licence that stayed
abbrev pub said_license : Row → Row → LicenseChange → Option SaidRow
said_license old new change.Kept = None
said_license old new change.Rewritten = Some (bare how.Rewritten (Some old) (Some new))
said_license old new (change.Compared x) = Some (said_comparison old new x)
said_license old new (change.Untold before after) = Some (said_untold old new before after)

-- ---- a change

abbrev pub IsSaidChange : Rows → ChangeRow → Option SaidRow → Type 0
IsSaidChange c (came new) said = said ≡ Some (bare how.Came None (Some new))
IsSaidChange c (went old) said = said ≡ Some (bare how.Went (Some old) None)
IsSaidChange c (stayed old new) said =
    (x : LicenseChange) × IsLicenseChange c old.license new.license x ×
    (said ≡ said_license old new x)

-- each change in turn is said, but for the packages whose licence stayed
pub data AreSaid (c : Rows) : List ChangeRow → List SaidRow → Type 0 where
  none : AreSaid c [] []
  silent : {x : ChangeRow} {xs : List ChangeRow} {said : List SaidRow} →
      IsSaidChange c x None → AreSaid c xs said → AreSaid c (x ∷ xs) said
  one : {x : ChangeRow} {xs : List ChangeRow} {s : SaidRow} {said : List SaidRow} →
      IsSaidChange c x (Some s) → AreSaid c xs said → AreSaid c (x ∷ xs) (s ∷ said)

abbrev pub with_one : List SaidRow → Option SaidRow → List SaidRow
with_one said None = said
with_one said (Some s) = said ++ s ∷ []

-- what is said of one more change stands behind all else
abbrev pub IsOneMore : Rows → ChangeRow → List SaidRow → List SaidRow → Type 0
IsOneMore c x old new =
    (s : Option SaidRow) × IsSaidChange c x s × (new ≡ with_one old s)
