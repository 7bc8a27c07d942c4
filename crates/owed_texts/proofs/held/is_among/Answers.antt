use Rattle.std.proofs.Common.{◌∙◌, sym}
use Rattle.std.specs.Prelude.{bytes_eq}
use Rattle.owed_texts.specs.Held.{name_in}
use Rattle.owed_texts.proofs.Firsts.{any_in_map}
use Rattle.owed_texts.proofs.held.is_among.Goals as goal

pub returns : goal.returns
returns c = c.has.ensures ∙ sym (any_in_map (λ one. bytes_eq one c.args.name.now) name_in c.args.names.now)
