use Rattle.spdx_commands.specs.Beside.{at_nothing}
use Rattle.spdx_commands.proofs.beside.is_file.Goals as goal

pub returns-in-Err : goal.returns-in-Err
returns-in-Err g c = at_nothing c.in-Err.field-0 c.in-Err.ensures.err
