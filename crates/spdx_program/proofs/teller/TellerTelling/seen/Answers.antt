use Rattle.spdx_program.specs.Telling.{check_line}
use Rattle.spdx_program.proofs.Told.{none_told}
use Rattle.spdx_program.proofs.teller.TellerTelling.seen.Goals as goal

pub returns : goal.returns
returns g c = none_told c.args.self.now.screen.progress check_line (g.F.Sink.told c.args.self.now.faults) (g.F.Sink.told c.show.new.faults) c.show.ensures
