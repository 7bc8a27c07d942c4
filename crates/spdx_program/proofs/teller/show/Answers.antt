use Rattle.std.proofs.Common.{◌∙◌}
use Rattle.spdx_program.proofs.Told.{count_shown, none_shown}
use Rattle.spdx_program.proofs.teller.show.Goals as goal

pub returns-then-not-screen : goal.returns-then-not-screen
returns-then-not-screen g c = none_shown c.args.screen.progress (g.F.Sink.told c.args.faults.now)

pub returns-in_err-text : goal.returns-in_err-text
returns-in_err-text g c = none_shown c.args.screen.progress (g.F.Sink.told c.args.faults.now)

pub returns : goal.returns
returns g c =
    count_shown c.args.screen.progress c.args.files c.deref.result.now (g.F.Sink.told c.args.faults.now) (g.F.Sink.told c.put.new.faults) c.if-not-screen.false
    (c.deref.ensures.value ∙ c.in_ok-text.ensures) c.put.ensures
