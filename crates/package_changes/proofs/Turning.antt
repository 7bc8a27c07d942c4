-- The other way round each change is told as its turned one.
use Rattle.std.proofs.Common.{◌≡◌, ◌≢◌, ℕ, Bool, true, false, List, sym}
use Rattle.std.specs.Prelude.{◌||◌, is_some}
use Rattle.spdx_requirement.specs.Rows.{Rows}
use Rattle.spdx_parser.specs.Tree.{Tree}
use Rattle.spdx_meaning.specs.Relations.{IsRelation}
use Rattle.spdx_meaning.specs.declared.relation.Relation.{Relation}
use Rattle.spdx_meaning.specs.declared.relation.Relation.TheVariants.{Same, More, Less, Neither}
use Rattle.spdx_meaning.specs.declared.comparison.Comparison.{Comparison}
use Rattle.spdx_meaning.specs.Comparing.{IsComparisonOf}
use Rattle.package_changes.specs.declared.change.LicenseChange.TheVariants as change
use Rattle.package_changes.specs.declared.change.LicenseChange.{LicenseChange}
use Rattle.package_changes.specs.Reading.{IsSaid}
use Rattle.package_changes.specs.Found.{IsSaidChange}
use Rattle.package_changes.specs.Changing.{IsLicenseChange, Turns, turned_relation, turned_comparison}

relation : (t u : Tree) (r : Relation) → IsRelation t u r → IsRelation u t (turned_relation r)
relation t u Same h = λ f is. sym (h f is)
relation t u More h = (h.1, h.0)
relation t u Less h = (h.1, h.0)
relation t u Neither h = (h.1, h.0)

comparison : (t u : Tree) (x : Comparison) → IsComparisonOf t u x → IsComparisonOf u t (turned_comparison x)
comparison t u x h = record {
  relation_is = relation t u x.relation h.relation_is;
  first_alone = h.second_alone;
  second_alone = h.first_alone;
}

either_way : (a b : Bool) → (a || b) ≡ true → (b || a) ≡ true
either_way true true h = h
either_way true false h = h
either_way false true h = h
either_way false false h = h

pub turns : (c : Rows) (old new : List ℕ) → Turns c old new
turns c old new change.Kept h = sym h
turns c old new change.Rewritten h = (
  λ e. h.0 (sym e),
  record { before = h.1.after; after = h.1.before; said_before = h.1.said_after; said_after = h.1.said_before; alike = sym h.1.alike },
)
turns c old new (change.Compared x) h = (
  λ e. h.0 (sym e),
  record {
    before = h.1.after;
    after = h.1.before;
    said_before = h.1.said_after;
    said_after = h.1.said_before;
    otherwise = λ e. h.1.otherwise (sym e);
    compared = comparison h.1.before h.1.after x h.1.compared;
  },
)
turns c old new (change.Untold before after) h = (λ e. h.0 (sym e), h.2, h.1, either_way (is_some before) (is_some after) h.3)

-- what is told of the trees of two licenses is told of these
pub lifted : (c : Rows) (old new : List ℕ) (t u : Tree) → old ≢ new → IsSaid c old t → IsSaid c new u → (x : LicenseChange) → IsSaidChange t u x → IsLicenseChange c old new x
lifted c old new t u differ one other change.Kept h = absurd h
lifted c old new t u differ one other change.Rewritten h = (differ, record { before = t; after = u; said_before = one; said_after = other; alike = h })
lifted c old new t u differ one other (change.Compared x) h = (differ, record { before = t; after = u; said_before = one; said_after = other; otherwise = h.0; compared = h.1 })
lifted c old new t u differ one other (change.Untold before after) h = absurd h
