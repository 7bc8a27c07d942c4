use Rattle.std.proofs.Common.{ap, ◌∙◌}
use Rattle.spdx_minimize.specs.Choice.{choice_of}
use Rattle.spdx.specs.Value.{trees_of}
use Rattle.spdx_lines.specs.Trees.{trees_in}
use Rattle.spdx_lines.proofs.Keeping.{choice_kept, all_written}
use Rattle.spdx_lines.proofs.all_lines.AllLinesVerdicts.close.Goals as goal

pub returns-clause-text : goal.returns-clause-text
returns-clause-text c lines h =
    let all = c.args.self.now in
    let accepted = all.accepted.now in
    let choice = choice_of (trees_of c.deref.result.now) accepted in
    let written = c.in_ok-put_choice.ensures choice c.minimized_for_all.ensures.ok c.minimized_for_all.ensures.err in
    all_written c.args.text.now.items c.extend_from_slice.new.self.items c.put_choice.new.text.items c.push.new.self.items choice _
    c.in_ok-extend_from_slice.ensures.items written c.in_ok-push.ensures.items
    (ap (λ es. choice_of (trees_of es) accepted) c.deref.ensures.value ∙ ap (λ ts. choice_of ts accepted) c.in_ok-kept.ensures ∙ choice_kept all.catalogue.now all.mode accepted (trees_in all.kept) lines h)
