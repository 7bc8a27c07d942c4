use Rattle.gate_program.proofs.Asking.{are_known}
use Rattle.gate_program.proofs.before.known_in.Goals as goal

pub returns : goal.returns
returns c =
    are_known c.args.older.now c.args.older_report.now c.args.files.now c.args.report.now _ _ _ _ _ _ _ _ c.in_ok-known.known.items
    c.in_ok-before.ensures c.in_ok-now.ensures c.deref.ensures.value c.deref-2.ensures.value
    c.in_ok-refused.ensures c.in_ok-refusals.ensures c.deref-3.ensures.value c.deref-4.ensures.value c.in_ok-known.ensures.exact
