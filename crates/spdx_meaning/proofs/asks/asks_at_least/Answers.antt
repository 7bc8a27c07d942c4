use Rattle.std.proofs.Common.{◌≡◌, sym, ◌∙◌, ap, ℕ, List, map, Ok}
use Rattle.std.specs.Prelude.{is_none}
use Rattle.std.specs.Global.{Vec}
use Rattle.std.specs.List.{list_all, find}
use Rattle.spdx_parser.specs.Tree.{leaves}
use Rattle.spdx_evaluation.specs.Postfix.{tree_in}
use Rattle.selections.specs.Sets.{sets_in}
use Rattle.spdx_meaning.specs.Places.{place_in}
use Rattle.spdx_meaning.specs.Made.{made_in}
use Rattle.spdx_meaning.specs.Minimal.{is_unmet}
use Rattle.spdx_meaning.proofs.Meaning.{MakesHold, asks_forth, asks_back, none_found, none_told}
use Rattle.spdx_meaning.proofs.asks.asks_at_least.Goals as goal

pub returns-clause-ok : goal.returns-clause-ok
returns-clause-ok c =
    let t = tree_in c.args.one.now in
    let u = tree_in c.args.other.now in
    let sets = sets_in c.in_ok-sets.sets.items in
    let made : made_in t ≡ Ok sets = c.in_ok-sets.ensures.ok (place_in (leaves t)) (c.as_slice.ensures.value ∙ c.in_ok-numbers.ensures) in
    let answer : c.is_none.result ≡ list_all (MakesHold t u sets made) sets =
    none_told (λ s. s.now) c.in_ok-unmet.unmet c.is_none.result c.is_none.ensures
    ∙ ap is_none c.in_ok-unmet.ensures
    ∙ ap (λ (z : List (Vec ℕ)). is_none (find (is_unmet t u) (sets_in z))) c.as_slice-2.ensures.value
    ∙ none_found (MakesHold t u sets made) sets in
    ((λ e. asks_back t u sets made (sym answer ∙ e)), (λ asks. answer ∙ asks_forth t u sets made asks))
