use Rattle.spdx_troubles.specs.Lines.{line_with}
use Rattle.spdx_program.proofs.Told.{all_cleared}
use Rattle.spdx_program.proofs.teller.TellerProgress.ended.Goals as goal

pub returns : goal.returns
returns g c = all_cleared c.args.self.now.screen.progress line_with (g.F.Sink.told c.args.self.now.faults) (g.F.Sink.told c.clear.new.faults) c.clear.ensures
