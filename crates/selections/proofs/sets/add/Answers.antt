use Rattle.std.proofs.Common.{rules, tests, sym, ap, ◌∙◌, ◌≡◌, Bool, false, cond, ℕ, List, [], ◌∷◌, ◌++◌}
use Rattle.std.specs.Prelude.{not}
use Rattle.std.specs.List.{filter}
use Rattle.std.proofs.lemmas.Fn.{filter_same}
use Rattle.std.proofs.lemmas.List.{map-append}
use Rattle.selections.specs.Sets.{includes, includes_some, set_of, sets_in}
use Rattle.selections.proofs.Lists.{filter-map}
use Rattle.selections.proofs.sets.add.Goals as goal

pub returns : goal.returns
returns c =
    let sets = sets_in c.args.sets.now.items in
    let set = c.args.set.items in
    let there : includes_some sets set ≡ false = search rules in
    let left : List (List ℕ) = filter (λ m. not (includes m set)) sets in
    let kept = filter_same _ (λ v. not (includes (set_of v) set)) _ (λ x b f' k. search (rules, tests)) _ _ c.retain.ensures.filtered in
    ap sets_in c.in_ok-push.ensures.items
    ∙ map-append set_of c.retain.new.self.items (c.args.set ∷ [])
    ∙ ap (λ (z : List (List ℕ)). z ++ set ∷ []) (ap sets_in kept ∙ filter-map (λ m. not (includes m set)) set_of c.args.sets.now.items)
    ∙ ap (λ (b : Bool). cond b sets (left ++ set ∷ [])) (sym there)
