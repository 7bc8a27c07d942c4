use Rattle.std.proofs.Common.{map, take, string_bytes}
use Rattle.check_files.specs.Noted.{AddsNeeded, tag_text}
use Rattle.check_files.proofs.noted.add_tags.Given as goal

abbrev pub invariant-loop-tag : goal.invariant-loop-tag
invariant-loop-tag l = AddsNeeded l.check.catalogue.now l.check.mode (map (tag_text l.bytes) (take l.tag-index l.tags)) (map string_bytes l.initial.used.items) (map string_bytes l.used.items)
