use Rattle.std.proofs.Common.{◌≡◌, true, false, drop, sym, ◌∙◌}
use Rattle.spdx_hints.specs.Plain.{begins_link}
use Rattle.spdx_hints.proofs.Links.{link_none, link_some}
use Rattle.spdx_hints.proofs.plain.link_place.Goals as goal

pub returns-then-has_link-clause-value : goal.returns-then-has_link-clause-value
returns-then-has_link-clause-value c =
    let some : begins_link (drop c.loop-at.at c.args.text.now) ≡ true = sym c.has_link.ensures ∙ c.if-has_link.true in
    sym (link_some c.args.text.now c.loop-at.at c.loop-at-test.true some) ∙ c.loop-at.invariant

pub loop-at-preserved : goal.loop-at-preserved
loop-at-preserved c =
    let none : begins_link (drop c.loop-at.at c.args.text.now) ≡ false = sym c.has_link.ensures ∙ c.if-has_link.false in
    sym (link_none c.args.text.now c.loop-at.at c.loop-at-test.true none) ∙ c.loop-at.invariant
