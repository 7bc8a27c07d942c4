use Rattle.check_sources.proofs.Trimming.{is_trimmed}
use Rattle.check_sources.proofs.owed.without_slashes.Goals as goal

pub returns : goal.returns
returns c = is_trimmed c.args.path.now c.trim_end_matches.result.now c.trim_end_matches.ensures.matches
