use Rattle.std.proofs.Common.{string_bytes}
use Rattle.std.specs.Option.{option_copied}
use Rattle.spdx_list.specs.Shown.{shown_extras}
use Rattle.list_program.specs.Written.{made_of}
use Rattle.list_program.proofs.Causes.{told_of_files}
use Rattle.list_program.proofs.made.text_of.Goals as goal

pub returns-in-Err-Refused-clause-err : goal.returns-in-Err-Refused-clause-err
returns-in-Err-Refused-clause-err g c holds_licenses holds_exceptions =
    told_of_files (g.S.Shelf.told c.args.shelf.now)
    (made_of c.args.paths.licenses.now c.args.paths.exceptions.now (option_copied c.args.paths.extras))
    (string_bytes c.in_ok-path-in-Err-Refused.path) c.args.licenses.now c.args.exceptions.now
    (shown_extras c.in_ok-extras.extras) c.in-Err-Refused.fault
    c.in_ok-path-in-Err-Refused.ensures.ok holds_licenses holds_exceptions c.in_ok-extras.ensures.ok
    (rw c.in-Err-Refused.field-0-is at c.in-Err-Refused.ensures.err)
