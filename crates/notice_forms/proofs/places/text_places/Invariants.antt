use Rattle.std.proofs.Common.{◌≡◌, List, map, take}
use Rattle.std.specs.Borrow.{Bor}
use Rattle.license_notice.specs.declared.packages.Release.{Release}
use Rattle.license_notice.specs.Notices.{line_of}
use Rattle.notice_forms.specs.Told.{Named, named}
use Rattle.notice_forms.proofs.places.text_places.Given as goal

abbrev pub invariant-loop-text : goal.invariant-loop-text
invariant-loop-text l =
    map (λ (rs : Bor (List Release)). map line_of rs.now) l.lists.items ≡ map (λ (t : Named). t.lines) (map named (take l.text-index l.texts))
