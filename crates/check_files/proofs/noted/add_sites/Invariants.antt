use Rattle.std.proofs.Common.{map, take, string_bytes}
use Rattle.check_files.specs.Noted.{AddsNeeded, site_text}
use Rattle.check_files.proofs.noted.add_sites.Given as goal

abbrev pub invariant-loop-site : goal.invariant-loop-site
invariant-loop-site l = AddsNeeded l.catalogue l.mode (map site_text (take l.site-index l.sites)) (map string_bytes l.initial.used.items) (map string_bytes l.used.items)
