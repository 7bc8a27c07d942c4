use Rattle.std.proofs.Common.{◌∷◌, ◌∙◌, Option, suc, ap, drop, drop-cons, sym}
use Rattle.std.specs.Option.{option_copied}
use Rattle.spdx_gate.specs.declared.report.Row.{Row}
use Rattle.changes_program.specs.declared.said.Said.{Said}
use Rattle.changes_program.specs.Said.{said_row}
use Rattle.changes_program.specs.Tellings.{telling_of}
use Rattle.changes_program.proofs.Telling.{all_told, one_told}
use Rattle.changes_program.proofs.tellings.tellings_of.Goals as goal

pub loop-number-preserved : goal.loop-number-preserved
loop-number-preserved c =
    let n = c.loop-number.number in
    let x = c.index-said-number.result in
    one_told (option_copied c.args.report) c.args.said.now n x c.telling_of.result c.loop-number.tellings.items c.push.new.self.items _
    (drop-cons c.args.said.now n x c.loop-number-test.true ∙ ap (λ (z : Said). z ∷ drop (suc n) c.args.said.now) (sym c.index-said-number.is))
    c.in_ok-push.ensures.items
    (c.telling_of.ensures ∙ ap (λ (o : Option Row). telling_of (said_row x) o) c.row_at.ensures)
    c.loop-number.invariant

pub returns : goal.returns
returns c = all_told (option_copied c.args.report) c.args.said.now c.loop-number.number c.loop-number.tellings.items _ c.loop-number-test.false c.loop-number.invariant
