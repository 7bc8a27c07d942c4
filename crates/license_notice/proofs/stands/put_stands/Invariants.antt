use Rattle.std.proofs.Common.{◌≡◌, ◌++◌, map, take}
use Rattle.license_notice.specs.declared.packages.Requirement.{Requirement}
use Rattle.license_notice.specs.Rows.{row}
use Rattle.license_notice.specs.Stands.{row_of}
use Rattle.license_notice.proofs.stands.put_stands.Given as goal

abbrev pub invariant-loop-requirement : goal.invariant-loop-requirement
invariant-loop-requirement l =
    (map row_of l.stands.items ≡ map row_of l.initial.stands.items ++ map (λ (q : Requirement). row q.name.now l.«package».name.now l.«package».version.now) (take l.requirement-index l.requirement-items))
    × (l.requirement-items ≡ l.«package».choice.now)
