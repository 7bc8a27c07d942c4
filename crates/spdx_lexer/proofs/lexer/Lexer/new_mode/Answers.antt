use Rattle.std.proofs.Common.{◌≡◌, ℕ, ◌-◌, length, subst, arith}
use Rattle.spdx_lexer.specs.Reading.{reading}
use Rattle.spdx_lexer.specs.Layout.{AreLaid}
use Rattle.spdx_lexer.proofs.Bound.{reading_few}
use Rattle.spdx_lexer.proofs.Laid.{reading_laid, laid_places}
use Rattle.spdx_lexer.proofs.lexer.Lexer.new_mode.Goals as goal

pub returns-clause-bound : goal.returns-clause-bound
returns-clause-bound c = reading_few c.args.catalogue.now c.args.mode (length c.args.text.now - length c.args.text.now) c.args.text.now

pub returns-clause-laid : goal.returns-clause-laid
returns-clause-laid c =
    let start : 0 ≡ length c.args.text.now - length c.args.text.now = omega arith in
    subst (λ (n : ℕ). AreLaid c.args.catalogue.now c.args.mode c.args.text.now 0 (reading c.args.catalogue.now c.args.mode n c.args.text.now)) start
    (reading_laid c.args.catalogue.now c.is_well_formed.ensures c.has_text_prefixes.ensures c.args.mode c.args.text.now c.utf8.text)

pub returns-clause-places : goal.returns-clause-places
returns-clause-places c = laid_places c.args.catalogue.now c.args.mode c.args.text.now 0 (reading c.args.catalogue.now c.args.mode (length c.args.text.now - length c.args.text.now) c.args.text.now) (returns-clause-laid c)
