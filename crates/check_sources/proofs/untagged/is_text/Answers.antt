use Rattle.std.proofs.Common.{subst, sym}
use Rattle.std.specs.Option.{option_copied}
use Rattle.check_sources.specs.Untagged.{IsSameBySlash, IsSameFromHere, IsSamePathFromHere}
use Rattle.check_sources.proofs.Spelling.{same_here, same_path, same_slash}
use Rattle.check_sources.proofs.untagged.is_text.Goals as goal

pub returns-clause-slash : goal.returns-clause-slash
returns-clause-slash c =
    subst (IsSameBySlash (option_copied c.args.folder) c.args.path.now) (sym c.is_below_one.ensures) (same_slash (option_copied c.args.folder) c.args.path.now)

pub returns-clause-here : goal.returns-clause-here
returns-clause-here c =
    subst (IsSameFromHere (option_copied c.args.folder) c.args.path.now) (sym c.is_below_one.ensures) (same_here (option_copied c.args.folder) c.args.path.now)

pub returns-clause-path_here : goal.returns-clause-path_here
returns-clause-path_here c =
    subst (IsSamePathFromHere (option_copied c.args.folder) c.args.path.now) (sym c.is_below_one.ensures) (same_path (option_copied c.args.folder) c.args.path.now)
