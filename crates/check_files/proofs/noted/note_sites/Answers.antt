use Rattle.std.proofs.Common.{map, string_bytes}
use Rattle.check_files.proofs.Needed.{of_sites}
use Rattle.check_files.proofs.Steps.{on_ok}
use Rattle.check_files.proofs.noted.note_sites.Goals as goal

pub returns-in-Some : goal.returns-in-Some
returns-in-Some c =
    on_ok c.add_declared.result _ _
    (of_sites c.args.check.now.catalogue.now c.args.check.now.mode c.args.form c.args.sites.now c.in-Some.sites c.deref.result.now (map string_bytes c.args.used.now.items)
    (map string_bytes c.add_declared.new.used.items) c.in-Some.is c.deref.ensures.value)
    c.add_declared.ensures
