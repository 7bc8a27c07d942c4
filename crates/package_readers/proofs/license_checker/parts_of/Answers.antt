use Rattle.std.proofs.Common.{arith, rules}
use Rattle.package_items.proofs.Slashes.{rsplit_once_at}
use Rattle.package_readers.proofs.license_checker.parts_of.Goals as goal

pub returns-in-Some : goal.returns-in-Some
returns-in-Some c =
    let split = rsplit_once_at 64 c.args.key.now _ c.rsplit_once.ensures.cases (omega arith) in
    rw (← split) (grind rules)

pub returns-in_default : goal.returns-in_default
returns-in_default c =
    let split = rsplit_once_at 64 c.args.key.now _ c.rsplit_once.ensures.cases (omega arith) in
    rw (← split) (grind rules)
