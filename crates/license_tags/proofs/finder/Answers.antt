use Rattle.std.proofs.Common.{◌∙◌, refl}
use Rattle.license_tags.specs.Tags.{tag_text}
use Rattle.license_tags.proofs.finder.Goals as goal

pub returns : goal.returns
unfolding tag_text
returns c = c.new.ensures ∙ refl
