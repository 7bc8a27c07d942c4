use Rattle.std.proofs.Common.{arith, refl, sym, ap, ◌∙◌, ◌≡◌, length, true, false}
use Rattle.std.proofs.lemmas.List.{length-map}
use Rattle.std.specs.Fn.{CalledAt}
use Rattle.spdx_parser.specs.Tree.{postfix, node_of}
use Rattle.spdx_evaluation.specs.Postfix.{tree_in}
use Rattle.spdx_evaluation.proofs.Answering.{holds_by}
use Rattle.spdx_evaluation.proofs.Evaluating.{evaluates_one, evaluates_two}
use Rattle.spdx_evaluation.proofs.Nodes.{length-postfix}
use Rattle.spdx_evaluation.proofs.truth.evaluate.Goals as goal

pub returns-clause-ok : goal.returns-clause-ok
returns-clause-ok g c =
    evaluates_one (CalledAt g.F.FnMut) c.args.f.now c.f.new.self c.args.nodes.now _ _ c.f.result
    (omega (arith, c.in-len1.len_at_least, c.in-len1.len_below)) (sym c.node-item.is ∙ c.in-Req.is) (record { shown = _; shows = refl; called = c.f.ensures })

pub returns-clause-by : goal.returns-clause-by
returns-clause-by g c = λ h by. holds_by (CalledAt g.F.FnMut) c.args.f.now h by (tree_in c.args.nodes.now) c.f.result c.f.new.self (returns-clause-ok g c)

pub returns-2-clause-ok : goal.returns-2-clause-ok
returns-2-clause-ok g c =
    evaluates_two (CalledAt g.F.FnMut) c.args.f.now c.f-one.new.self c.f-other.new.self c.args.nodes.now _ _ _ _ _ _ c.f-one.result c.f-other.result c.joined.result
    (omega (arith, c.in-len3.len_at_least, c.in-len3.len_below)) (sym c.first-item.is ∙ c.in-Req-first.is) (sym c.second-item.is ∙ c.in-Req-second.is) (sym c.last-item.is ∙ c.in-Op.is)
    (record { shown = _; shows = refl; called = c.f-one.ensures }) (record { shown = _; shows = refl; called = c.f-other.ensures }) c.joined.ensures

pub returns-2-clause-by : goal.returns-2-clause-by
returns-2-clause-by g c = λ h by. holds_by (CalledAt g.F.FnMut) c.args.f.now h by (tree_in c.args.nodes.now) c.joined.result c.f-other.new.self (returns-2-clause-ok g c)

pub returns-in_err-truths-clause-no_memory : goal.returns-in_err-truths-clause-no_memory
returns-in_err-truths-clause-no_memory g c = λ few.
    let nodes = c.args.nodes.now in
    let t = tree_in nodes in
    let len : length nodes ≡ length (postfix t) = sym (length-map nodes node_of) ∙ ap length c.requires.tree in
    let both : false ≡ true = c.in_err-truths.ensures.inline (omega (arith, len, length-postfix t, few)) in cc

pub returns-3-clause-by : goal.returns-3-clause-by
returns-3-clause-by g c = λ h by. holds_by (CalledAt g.F.FnMut) c.args.f.now h by (tree_in c.args.nodes.now) c.truth_over.result c.truth_over.new.f c.truth_over.ensures.truth

pub returns-then-nodes-le64-clause-by : goal.returns-then-nodes-le64-clause-by
returns-then-nodes-le64-clause-by g c = λ h by. holds_by (CalledAt g.F.FnMut) c.args.f.now h by (tree_in c.args.nodes.now) c.truth_in_word.result c.truth_in_word.new.f c.truth_in_word.ensures.truth
