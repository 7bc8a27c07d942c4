use Rattle.std.proofs.Common.{arith, sym, ◌∙◌, subst, take, get_or, ◌≡◌, ◌<◌, ℕ, ◌-◌, ◌+◌, length, false}
use Rattle.spdx_catalogue.specs.Names as spec
use Rattle.spdx_catalogue.proofs.Plus.{one_off, stops}
use Rattle.spdx_catalogue.proofs.names.without_plus.Goals as goal
use Rattle.spdx_catalogue.proofs.names.without_plus.Goals.{then-loop-end-test+else-name-end-eq43, else-loop-end-test}

pub loop-end-preserved : goal.loop-end-preserved
loop-end-preserved c =
    let i : ℕ = c.loop-end.end - 1 in
    let up : c.loop-end.end ≡ i + 1 = omega arith in
    let lt : i < length c.args.name.now = omega arith in
    let here = one_off c.args.name.now i lt c.if-name-end-eq43.true in
    let whole : spec.without_plus (take c.loop-end.end c.args.name.now) ≡ spec.without_plus c.args.name.now = c.loop-end.invariant.1 in
    (omega arith, sym here ∙ subst (λ (k : ℕ). spec.without_plus (take k c.args.name.now) ≡ spec.without_plus c.args.name.now) up whole)

pub returns : goal.returns
returns c = elim c.loop-end-test.branch [
  | then-loop-end-test+else-name-end-eq43 w ↦
      (let i : ℕ = c.loop-end.end - 1 in
      let up : i + 1 ≡ c.loop-end.end = omega arith in
      let lt : i < length c.args.name.now = omega arith in
      let no : spec.is_plus (get_or c.args.name.now i 0) ≡ false = grind (arith, w.if-name-end-eq43.false) in
      let here = stops c.args.name.now i lt no in
      let whole : spec.without_plus (take c.loop-end.end c.args.name.now) ≡ spec.without_plus c.args.name.now = c.loop-end.invariant.1 in
      sym (subst (λ (k : ℕ). spec.without_plus (take k c.args.name.now) ≡ take k c.args.name.now) up here) ∙ whole)
  | else-loop-end-test w ↦
      (let z : c.loop-end.end ≡ 0 = omega arith in
      let whole : spec.without_plus (take c.loop-end.end c.args.name.now) ≡ spec.without_plus c.args.name.now = c.loop-end.invariant.1 in
      rw z (subst (λ (k : ℕ). spec.without_plus (take k c.args.name.now) ≡ spec.without_plus c.args.name.now) z whole))
]
