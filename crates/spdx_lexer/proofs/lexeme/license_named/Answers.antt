use Rattle.std.proofs.Common.{ap, ◌∙◌}
use Rattle.spdx_catalogue.specs.LookUps.{listed}
use Rattle.spdx_lexer.proofs.Front.{no_plus}
use Rattle.spdx_lexer.proofs.lexeme.license_named.Goals as goal

pub returns : goal.returns
returns c = c.license_id.ensures ∙ ap (listed c.args.catalogue.now.licenses) (no_plus c.args.run.now c.requires)
