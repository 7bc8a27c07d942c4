use Rattle.check_sources.specs.Stood.{source_of}
use Rattle.check_sources.proofs.Manifests.{of_sites}
use Rattle.check_sources.proofs.findings.declared.check_manifest.Goals as goal

pub returns-in_ok-found-in-Ok : goal.returns-in_ok-found-in-Ok
returns-in_ok-found-in-Ok c =
    of_sites c.args.check.now c.args.is_first c.args.form (source_of c.args.source) c.in-Ok.found.items c.in_ok-ordered-in-Ok.ordered.items c.deref.result.now c.in_ok-found-in-Ok.found.text.items
    c.in_ok-found-in-Ok.found.summary c.in-Ok.ensures.ok c.in_ok-ordered-in-Ok.ensures c.deref.ensures.value (rw c.mode_in.ensures at c.in_ok-found-in-Ok.ensures)

pub returns-in_ok-found-in-Err-Refused : goal.returns-in_ok-found-in-Err-Refused
returns-in_ok-found-in-Err-Refused c = record {
  fault = c.in-Err-Refused.fault;
  why = rw c.in-Err-Refused.field-0-is at c.in-Err-Refused.ensures.err;
  text_is = rw c.in-Err-Refused.fault-is at c.in_ok-found-in-Err-Refused.ensures.text;
  summary_is = c.in_ok-found-in-Err-Refused.ensures.summary;
}
