use Rattle.std.proofs.Common.{◌≡◌, ◌∙◌, Ok}
use Rattle.spdx_parser.specs.Tree.{leaves}
use Rattle.spdx_evaluation.specs.Postfix.{tree_in}
use Rattle.selections.specs.Sets.{sets_in}
use Rattle.spdx_meaning.specs.Places.{place_in}
use Rattle.spdx_meaning.specs.Made.{made_in}
use Rattle.spdx_meaning.proofs.Meaning.{made_apart}
use Rattle.spdx_meaning.proofs.Least.{are_minimal}
use Rattle.spdx_meaning.proofs.minimal.minimal_sets.Goals as goal

pub returns-clause-ok : goal.returns-clause-ok
returns-clause-ok c =
    let t = tree_in c.args.nodes.now in
    let sets = sets_in c.in_ok-sets.sets.items in
    let made : made_in t ≡ Ok sets = c.in_ok-sets.ensures.ok (place_in (leaves t)) (c.as_slice.ensures.value ∙ c.in_ok-numbers.ensures) in
    let apart = c.in_ok-in_order.ensures.apart (made_apart (place_in (leaves t)) t sets made) in
    are_minimal t sets (sets_in c.in_ok-in_order.field-0.items) made c.in_ok-in_order.ensures.means apart c.in_ok-in_order.ensures.rise (c.in_ok-in_order.ensures.ordered (made_apart (place_in (leaves t)) t sets made))
