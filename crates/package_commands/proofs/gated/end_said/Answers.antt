use Rattle.std.proofs.Common.{refl, rules}
use Rattle.std.specs.Option.{option_copied}
use Rattle.package_commands.proofs.Ends.{no_package_said}
use Rattle.package_commands.proofs.gated.end_said.Goals as goal

pub returns-in_ok-push-in-NoPackage : goal.returns-in_ok-push-in-NoPackage
returns-in_ok-push-in-NoPackage c =
    no_package_said c.args.before.items (option_copied c.args.explain) c.args.end c.in-NoPackage.text c.in_ok-name-in-NoPackage.name _ c.in-NoPackage.is refl refl (search rules) (search rules)
