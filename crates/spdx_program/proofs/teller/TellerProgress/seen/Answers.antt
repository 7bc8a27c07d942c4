use Rattle.spdx_troubles.specs.Lines.{line_with}
use Rattle.spdx_program.proofs.Told.{none_told}
use Rattle.spdx_program.proofs.teller.TellerProgress.seen.Goals as goal

pub returns : goal.returns
returns g c = none_told c.args.self.now.screen.progress line_with (g.F.Sink.told c.args.self.now.faults) (g.F.Sink.told c.show.new.faults) c.show.ensures
