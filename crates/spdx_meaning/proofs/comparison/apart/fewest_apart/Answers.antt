use Rattle.std.proofs.Common.{◌≡◌, ◌∙◌, sym, ap, subst, ℕ, List, Some, None}
use Rattle.std.specs.Prelude.{option_map}
use Rattle.spdx_evaluation.specs.Postfix.{tree_in}
use Rattle.selections.specs.Sets.{sets_in}
use Rattle.spdx_meaning.specs.Apart.{AreFewest}
use Rattle.spdx_meaning.proofs.Fewest.{told_alone}
use Rattle.spdx_meaning.proofs.comparison.apart.fewest_apart.Goals as goal

pub returns-in_ok-names_at-in-Some : goal.returns-in_ok-names_at-in-Some
returns-in_ok-names_at-in-Some c =
    let t = tree_in c.args.one.now in
    let u = tree_in c.args.other.now in
    let found = sym c.in_ok-places.ensures ∙ ap (option_map (λ s. s.now)) c.in-Some.is in
    subst (AreFewest t u) (sym c.in_ok-names_at-in-Some.ensures) (told_alone t (sets_in c.args.sets.now) c.requires.minimal u (Some c.in-Some.places.now) found)

pub returns-in-None : goal.returns-in-None
returns-in-None c =
    told_alone (tree_in c.args.one.now) (sets_in c.args.sets.now) c.requires.minimal (tree_in c.args.other.now) None (sym c.in_ok-places.ensures ∙ ap (option_map (λ s. s.now)) c.in-None.is)
