use Rattle.std.proofs.Common.{◌∙◌, refl}
use Rattle.license_tags.specs.Tags.{end_text}
use Rattle.license_tags.proofs.end_finder.Goals as goal

pub returns : goal.returns
unfolding end_text
returns c = c.new.ensures ∙ refl
