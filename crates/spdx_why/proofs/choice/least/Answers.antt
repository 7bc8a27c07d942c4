use Rattle.std.proofs.Common.{◌≡◌, ◌∙◌, sym, ap, ℕ, Bool, List, Vec, IfOk, length, map, subst}
use Rattle.std.specs.declared.alloc.Global.{Global}
use Rattle.std.proofs.lemmas.List.{length-map}
use Rattle.std.proofs.lemmas.Result.{IfOk-weaker}
use Rattle.spdx_parser.specs.Tree.{leaves}
use Rattle.spdx_evaluation.specs.Postfix.{tree_in}
use Rattle.spdx_why.specs.Least.{Choice, advised, first_candidate, firsts_of, suffices_in, IsLeastRemedy, AdvisesOnly}
use Rattle.spdx_why.specs.Serving.{lists_in, alone, serves_in, choice_among}
use Rattle.spdx_why.proofs.Chosen.{advises_candidates}
use Rattle.spdx_why.proofs.Served.{same_choice, same_meaning}
use Rattle.spdx_why.proofs.choice.least.Goals as goal

pub least_serving-requires-clause-served : goal.least_serving-requires-clause-served
least_serving-requires-clause-served c =
    let t = tree_in c.args.nodes.now in
    let serving = c.as_slice.result.now in
    let firsts : lists_in serving ≡ map alone (firsts_of t c.args.candidates.now) = ap lists_in c.as_slice.ensures.value ∙ c.in_ok-serving.ensures in
    sym (length-map serving (λ (v : Vec ℕ Global). v.items)) ∙ ap length firsts
    ∙ length-map (firsts_of t c.args.candidates.now) alone ∙ length-map (leaves t) (first_candidate (leaves t) c.args.candidates.now)

pub returns-clause-exact : goal.returns-clause-exact
returns-clause-exact c =
    let t = tree_in c.args.nodes.now in
    let a = c.args.accepted.now in
    let firsts : lists_in c.as_slice.result.now ≡ map alone (firsts_of t c.args.candidates.now) = ap lists_in c.as_slice.ensures.value ∙ c.in_ok-serving.ensures in
    let same = ap (λ (s : List (List ℕ)). choice_among t a s (length a)) firsts ∙ same_choice t a c.args.candidates.now in
    subst (λ (z : Choice). IfOk c.least_serving.result (λ advice. advised advice ≡ z)) same c.least_serving.ensures.exact

pub returns-clause-least : goal.returns-clause-least
returns-clause-least c =
    let t = tree_in c.args.nodes.now in
    let a = c.args.accepted.now in
    let firsts : lists_in c.as_slice.result.now ≡ map alone (firsts_of t c.args.candidates.now) = ap lists_in c.as_slice.ensures.value ∙ c.in_ok-serving.ensures in
    let same = ap (λ (s : List (List ℕ)). serves_in t a s) firsts ∙ same_meaning t a c.args.candidates.now in
    subst (λ (f : List Bool → Bool). IfOk c.least_serving.result (IsLeastRemedy f (length a))) same c.least_serving.ensures.least

pub returns-clause-only : goal.returns-clause-only
returns-clause-only c =
    let t = tree_in c.args.nodes.now in
    let a = c.args.accepted.now in
    IfOk-weaker c.least_serving.result (IsLeastRemedy (suffices_in t a c.args.candidates.now) (length a)) (AdvisesOnly c.args.candidates.now)
    (advises_candidates t a c.args.candidates.now c.requires.each) (returns-clause-least c)
