use Rattle.std.proofs.Common.{◌≡◌, ap, sym, subst, ◌∙◌, ◌++◌, ℕ, List}
use Rattle.std.specs.Global.{Vec}
use Rattle.std.proofs.lemmas.List.{map-append}
use Rattle.selections.specs.Sets.{without, set_of, sets_in, met_by, AreApart}
use Rattle.selections.proofs.Means.{either_means}
use Rattle.selections.proofs.Apart.{either_apart}
use Rattle.selections.proofs.sets.either.Goals as goal

pub returns-clause-exact : goal.returns-clause-exact
returns-clause-exact c =
    let ls = sets_in c.args.left.items in
    let rs = sets_in c.args.right.items in
    let left : sets_in c.keep_without.new.sets.items ≡ without rs ls = c.keep_without.ensures ∙ ap (λ (z : List (Vec ℕ)). without (sets_in z) ls) c.as_slice.ensures.value in
    let right : sets_in c.keep_without-2.new.sets.items ≡ without (without rs ls) rs =
    c.keep_without-2.ensures ∙ ap (λ (z : List (Vec ℕ)). without (sets_in z) rs) c.as_slice-2.ensures.value ∙ ap (λ (z : List (List ℕ)). without z rs) left in
    ap sets_in c.in_ok-append.ensures.items
    ∙ map-append set_of c.keep_without.new.sets.items c.keep_without-2.new.sets.items
    ∙ ap (λ (z : List (List ℕ)). z ++ sets_in c.keep_without-2.new.sets.items) left
    ∙ ap (λ (z : List (List ℕ)). without rs ls ++ z) right

pub returns-clause-means : goal.returns-clause-means
returns-clause-means c p = ap (met_by p) (returns-clause-exact c) ∙ either_means p (sets_in c.args.left.items) (sets_in c.args.right.items)

pub returns-clause-apart : goal.returns-clause-apart
returns-clause-apart c h k = subst AreApart (sym (returns-clause-exact c)) (either_apart (sets_in c.args.left.items) (sets_in c.args.right.items) h k)
