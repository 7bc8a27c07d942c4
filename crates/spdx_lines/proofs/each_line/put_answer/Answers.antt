use Rattle.std.proofs.Common.{[], ◌∷◌}
use Rattle.spdx_minimize.specs.AcceptedModel.{licensees_of}
use Rattle.spdx_minimize.specs.Choice.{choice_of}
use Rattle.spdx_lines.specs.Verdict.{choice_text, choice_column}
use Rattle.spdx_lines.proofs.Answered.{ends_so, third}
use Rattle.spdx_lines.proofs.each_line.put_answer.Goals as goal

pub returns-in_ok-push-in-Some-2-clause-text : goal.returns-in_ok-push-in-Some-2-clause-text
returns-in_ok-push-in-Some-2-clause-text c =
    let accepted = licensees_of c.args.accepted.now in
    let first = c.begin_answer.new.text.items in
    let t = c.in-Some.expression.tree in
    let accepts = rw c.in-Some.is at c.in_ok-begin_answer.ensures in
    let choice = choice_of (t ∷ []) accepted in
    let found = c.in_ok-put_choice-in-Some.ensures choice c.minimized_among.ensures.ok c.minimized_among.ensures.err in
    ends_so c.args.catalogue.now c.args.mode c.args.line.now c.args.text.now.items first c.push-in-Some.new.self.items t (choice_column accepted) accepts
    (third first c.push.new.self.items c.put_choice.new.text.items c.push-in-Some.new.self.items (choice_text choice) c.in_ok-push-in-Some.ensures.items found c.in_ok-push-in-Some-2.ensures.items)
