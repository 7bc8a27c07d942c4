use Rattle.std.proofs.Common.{◌≡◌, map, take}
use Rattle.license_notice.specs.Notices.{line_of}
use Rattle.notice_texts.specs.Shared.{held}
use Rattle.notice_told.specs.Texts.{line_held}
use Rattle.notice_told.proofs.texts.releases_of.Given as goal

abbrev pub invariant-loop-holder : goal.invariant-loop-holder
invariant-loop-holder l = map line_of l.releases.items ≡ map line_held (map held (take l.holder-index l.holders))
