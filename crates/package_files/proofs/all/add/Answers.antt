use Rattle.std.proofs.Common.{refl}
use Rattle.package_files.specs.All.{is_listed, is_left}
use Rattle.package_files.proofs.all.add.Goals as goal

pub returns-in_ok-push-in-Ok : goal.returns-in_ok-push-in-Ok
returns-in_ok-push-in-Ok g c = is_listed c.in-Ok.listed c.in-Ok.ensures.ok c.in_ok-push-in-Ok.ensures.items refl

pub returns-in_ok-leave_out-in-Err : goal.returns-in_ok-leave_out-in-Err
returns-in_ok-leave_out-in-Err g c = is_left c.in-Err.fault c.in-Err.ensures.err c.in_ok-leave_out-in-Err.ensures
