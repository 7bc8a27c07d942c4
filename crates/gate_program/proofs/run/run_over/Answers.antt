use Rattle.std.proofs.Common.{sym, ◌∙◌}
use Rattle.std.proofs.lemmas.Result.{IfOk-weaker}
use Rattle.gate_program.specs.Run.{IsJudged, IsRunOver, IsWithoutBaseline}
use Rattle.gate_program.proofs.Runs.{lacking_baseline, none_are, over_older, some_are, without_files}
use Rattle.gate_program.proofs.run.run_over.Goals as goal

pub returns-then-is_none : goal.returns-then-is_none
returns-then-is_none g c =
    without_files (g.S.Shelf.told c.args.shelf.now) c.args.catalogue.now c.args.policy.now c.args.request c.in_ok-all.all c.ended.result c.in_ok-all.ensures.exact
    (none_are c.in_ok-all.all.files.items c.deref.result.now c.deref.ensures.value (sym c.is_none.ensures ∙ c.if-is_none.true)) c.ended.ensures.files c.ended.ensures.left_out c.ended.ensures.end

pub returns-in-Ok : goal.returns-in-Ok
returns-in-Ok g c =
    let s = g.S.Shelf.told c.args.shelf.now in
    IfOk-weaker c.judged.result
    (IsJudged c.args.catalogue.now c.args.policy.now c.args.request c.in_ok-all.all c.in-Ok.older)
    (IsRunOver s c.args.catalogue.now c.args.policy.now c.args.request)
    (λ run is. over_older s c.args.catalogue.now c.args.policy.now c.args.request c.in_ok-all.all c.in-Ok.older run c.in_ok-all.ensures.exact (some_are c.in_ok-all.all.files.items c.deref.result.now c.deref.ensures.value (sym c.is_none.ensures ∙ c.if-is_none.false)) c.in-Ok.ensures.ok is)
    c.judged.ensures

pub returns-in-Err : goal.returns-in-Err
returns-in-Err g c =
    let s = g.S.Shelf.told c.args.shelf.now in
    IfOk-weaker c.without_baseline.result
    (IsWithoutBaseline c.in_ok-all.all c.in-Err.fault)
    (IsRunOver s c.args.catalogue.now c.args.policy.now c.args.request)
    (λ run is. lacking_baseline s c.args.catalogue.now c.args.policy.now c.args.request c.in_ok-all.all c.in-Err.fault run c.in_ok-all.ensures.exact (some_are c.in_ok-all.all.files.items c.deref.result.now c.deref.ensures.value (sym c.is_none.ensures ∙ c.if-is_none.false)) c.in-Err.ensures.err is)
    c.without_baseline.ensures
