use Rattle.spdx_program.specs.Telling.{check_line}
use Rattle.spdx_program.proofs.Told.{all_cleared}
use Rattle.spdx_program.proofs.teller.TellerTelling.ended.Goals as goal

pub returns : goal.returns
returns g c = all_cleared c.args.self.now.screen.progress check_line (g.F.Sink.told c.args.self.now.faults) (g.F.Sink.told c.clear.new.faults) c.clear.ensures
