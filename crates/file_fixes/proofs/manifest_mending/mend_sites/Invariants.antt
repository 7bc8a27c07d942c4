use Rattle.file_fixes.specs.ManifestProgress.{IsSoFar}
use Rattle.file_fixes.proofs.manifest_mending.mend_sites.Given as goal

abbrev pub invariant-loop-site : goal.invariant-loop-site
invariant-loop-site l = IsSoFar l.manifest.catalogue.now l.manifest.form l.manifest.bytes.now l.fn.found.items l.site-iterator.rest.items l.mending
