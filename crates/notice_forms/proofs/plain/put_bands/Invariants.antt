use Rattle.std.proofs.Common.{◌≡◌, ◌++◌, map, take, flat_map}
use Rattle.license_notice.specs.Notices.{band_of}
use Rattle.notice_forms.specs.Plain.{plain_band}
use Rattle.notice_forms.proofs.plain.put_bands.Given as goal

abbrev pub invariant-loop-group : goal.invariant-loop-group
invariant-loop-group l = l.page.items ≡ l.initial.page.items ++ flat_map plain_band (map band_of (take l.group-index l.groups))
