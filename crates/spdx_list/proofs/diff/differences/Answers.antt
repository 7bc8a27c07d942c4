use Rattle.std.proofs.Common.{◌≡◌, ℕ, Bool, List, map, subst, sym}
use Rattle.std.proofs.lemmas.Result.{IfOk-weaker}
use Rattle.spdx_list.specs.Diff.{nows, only_here, changes, TellsEach}
use Rattle.spdx_list.specs.DiffShown.{pair_of}
use Rattle.spdx_list.proofs.Told.{tells_each}
use Rattle.spdx_list.proofs.diff.differences.Goals as goal

-- the same of lists that are these
same_told : {A : Type 0} (name_of : A → List ℕ) (is_same : A → A → Bool) (olds news added removed : List A) (changed : List (A × A))
    → added ≡ only_here name_of news olds → removed ≡ only_here name_of olds news → changed ≡ changes name_of is_same olds news
    → TellsEach name_of is_same olds news added removed changed
same_told name_of is_same olds news added removed changed a r c =
    subst (λ x. TellsEach name_of is_same olds news x removed changed) (sym a)
    (subst (λ x. TellsEach name_of is_same olds news (only_here name_of news olds) x changed) (sym r)
    (subst (λ x. TellsEach name_of is_same olds news (only_here name_of news olds) (only_here name_of olds news) x) (sym c) (tells_each name_of is_same olds news)))

pub returns-clause-each : goal.returns-clause-each
returns-clause-each g c =
    let shown = g.R.Listed.shown in
    IfOk-weaker c.told.result _ _
    (λ d is. same_told g.R.Listed.name_of g.R.Listed.is_same (map shown c.args.olds.now) (map shown c.args.news.now) (map shown (nows d.added.items)) (map shown (nows d.removed.items)) (map (pair_of shown) d.changed.items) is.0 is.1 is.2)
    c.told.ensures
