use Rattle.std.proofs.Common.{◌∙◌, sym}
use Rattle.check_sources.specs.Stood.{source_of}
use Rattle.check_files.proofs.Needed.{binary}
use Rattle.check_files.proofs.noted.note_tags.Goals as goal

pub returns-then-is_binary : goal.returns-then-is_binary
returns-then-is_binary c = binary _ _ (source_of c.args.source) _ (sym c.is_binary.ensures ∙ c.if-is_binary.true)
