-- What a run of lines does.
use Rattle.std.specs.Prelude.{◌≡◌, ◌↔◌, true, false, Result, IfSome, IfOk, OnOk, OnErr, IsErrOf}
use Rattle.line_engine.specs.declared.lines.Summary.{Summary}
use Rattle.line_engine.specs.declared.lines.RunFault.{RunFault}
use Rattle.line_engine.specs.declared.lines.RunFault.TheVariants.{Read, Write}
use Rattle.line_engine.specs.Device.{Devices}
use Rattle.line_engine.specs.Rule.{Rule}
use Rattle.line_engine.specs.Progress.{HasRun, HasBegun, HasWrittenLines, IsAnswered}

-- At Ok all was read and written (`ok`; in plainer words where the input tells its bytes, `known`),
-- and no device has failed. At a fault a beginning of the answers was written, after `Read` all of
-- those to the lines that are whole. `Read` comes exactly where the input has failed, and `Write`
-- only where the output has.
pub record Runs (rule : Rule) (d : Devices) (result : Result Summary RunFault) : Type 0 where
  pub ok : IfOk result (HasRun rule d)
  pub known : IfOk result (λ summary. IfSome d.input.bytes (IsAnswered rule d summary))
  pub sound : OnOk result ((d.input'.has_failed ≡ false) × (d.output'.has_failed ≡ false))
  pub begun : OnErr result (HasBegun rule d)
  pub read_all : IsErrOf result Read → HasWrittenLines rule d
  pub read : IsErrOf result Read ↔ (d.input'.has_failed ≡ true)
  pub write : IsErrOf result Write → d.output'.has_failed ≡ true
