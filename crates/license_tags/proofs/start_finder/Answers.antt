use Rattle.std.proofs.Common.{◌∙◌, refl}
use Rattle.license_tags.specs.Tags.{start_text}
use Rattle.license_tags.proofs.start_finder.Goals as goal

pub returns : goal.returns
unfolding start_text
returns c = c.new.ensures ∙ refl
