use Rattle.std.proofs.Common.{rules, ◌≡◌, ◌<◌, ◌^◌, ℕ, length, sym, ap, ◌∙◌, arith}
use Rattle.spdx_evaluation.specs.Truth.{truth_of}
use Rattle.spdx_parser.specs.Tree.{leaves}
use Rattle.spdx_calls.specs.Bits.{first_bits}
use Rattle.spdx_calls.proofs.BitAnswers.{counted-leaves, truth_by_bits}
use Rattle.spdx_calls.proofs.bits.evaluate_bits.Goals as goal

pub returns-then-count-wanted-clause-err : goal.returns-then-count-wanted-clause-err
returns-then-count-wanted-clause-err c =
    let e = c.in_ok-expression.expression in
    let wanted = counted-leaves e c.requirements.result c.count-wanted.result c.count-wanted.ensures.ran c.requirements.ensures.requirements c.requirements.ensures.places in
    (e, c.in_ok-expression.ensures.ok, wanted, search rules)

pub returns-in-Ok-clause-ok : goal.returns-in-Ok-clause-ok
returns-in-Ok-clause-ok c =
    let e = c.in_ok-expression.expression in
    let wanted = counted-leaves e c.requirements.result c.count-wanted.result c.count-wanted.ensures.ran c.requirements.ensures.requirements c.requirements.ensures.places in
    let same : c.args.count ≡ c.count-wanted.result = search rules in
    let as_many = same ∙ wanted in
    let fits : length (leaves e.tree) < 2 ^ 64 = omega arith in
    let truth =
    truth_by_bits _ e.tree c.in-Ok.truth _ c.in-Ok.ensures.ok c.args.bits.now (λ f. f.0.now ≡ c.args.bits.now) (λ f. f.1.now)
    (λ f x b g has one. (search rules, search rules, search rules)) (search rules) (search rules) fits in
    record {
      expression = e;
      read = c.in_ok-expression.ensures.ok;
      as_many = as_many;
      is = truth ∙ ap (λ (n : ℕ). truth_of e.tree (first_bits c.args.bits.now n)) (sym as_many);
    }
