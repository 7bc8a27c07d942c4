use Rattle.std.proofs.Common.{◌≡◌, ◌++◌, inr, refl, subst}
use Rattle.line_engine.specs.Device.{Told}
use Rattle.check_files.specs.Told.{Puts, before}
use Rattle.spdx_program.specs.Telling.{no_memory}
use Rattle.spdx_program.proofs.teller.Teller.stop.Goals as goal

pub returns-in-Err-clause-told : goal.returns-in-Err-clause-told
returns-in-Err-clause-told g c =
    inr (
      subst (λ (o : Told). Puts o (g.F.Sink.told c.put_text.new.faults) (λ text. text ≡ before c.args.self.now.screen.progress ++ no_memory)) c.in-Err.ensures.memory
          c.put_text.ensures,
      refl,
    )
