use Rattle.std.proofs.Common.{◌≡◌, List, map, take}
use Rattle.std.specs.Borrow.{Bor}
use Rattle.license_notice.specs.declared.packages.Release.{Release}
use Rattle.license_notice.specs.Places.{places_from}
use Rattle.license_notice.proofs.places.all_places.Given as goal

abbrev pub invariant-loop-number : goal.invariant-loop-number
invariant-loop-number l =
    l.rows.items ≡ places_from 0 (map (λ (rs : Bor (List Release)). rs.now) (take l.number l.lists))
