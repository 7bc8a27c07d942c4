use Rattle.std.proofs.Common.{◌≡◌, ◌++◌, map, take}
use Rattle.license_notice.specs.Places.{place}
use Rattle.license_notice.proofs.places.put_places.Given as goal

abbrev pub invariant-loop-release : goal.invariant-loop-release
invariant-loop-release l = l.rows.items ≡ l.initial.rows.items ++ map (place l.number) (take l.release-index l.list)
