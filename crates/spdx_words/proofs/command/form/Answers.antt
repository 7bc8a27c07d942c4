use Rattle.std.proofs.Common.{ap}
use Rattle.clap.specs.Walk.{texts}
use Rattle.spdx_words.proofs.command.form.Goals as goal

pub returns : goal.returns
returns c = ((c.as_slice.result, ap texts c.as_slice.ensures), c.choice.ensures)
