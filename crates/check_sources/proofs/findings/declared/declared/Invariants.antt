use Rattle.std.proofs.Common.{◌≡◌, map, take}
use Rattle.check_sources.specs.Manifests.{declared_at}
use Rattle.check_sources.specs.Stood.{stood}
use Rattle.check_sources.proofs.findings.declared.declared.Given as goal

abbrev pub invariant-loop-site : goal.invariant-loop-site
invariant-loop-site l = map stood l.all.items ≡ map declared_at (take l.site-index l.sites)
