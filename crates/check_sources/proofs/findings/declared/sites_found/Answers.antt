use Rattle.std.proofs.Common.{ap, ◌∙◌, List, IfOk, map, subst}
use Rattle.check_sources.specs.Findings.{ChecksWritten}
use Rattle.check_sources.specs.Stood.{source_of, stood}
use Rattle.check_sources.specs.Written.{Written}
use Rattle.check_sources.proofs.findings.declared.sites_found.Goals as goal

pub returns : goal.returns
returns c =
    subst (λ (ws : List Written). IfOk c.findings_of.result (λ f. ChecksWritten c.args.check.now c.args.is_first (source_of c.args.source) ws f.text.items f.summary))
    (ap (map stood) c.deref.ensures.value ∙ c.in_ok-all.ensures) c.findings_of.ensures
