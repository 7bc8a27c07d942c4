use Rattle.std.proofs.Common.{rules, tests, ap, ◌∙◌}
use Rattle.std.specs.Prelude.{not}
use Rattle.std.proofs.lemmas.Fn.{filter_same}
use Rattle.selections.specs.Sets.{includes_some, set_of, sets_in}
use Rattle.selections.proofs.Lists.{filter-map}
use Rattle.selections.proofs.sets.keep_without.Goals as goal

pub returns : goal.returns
returns c =
    ap sets_in (filter_same _ (λ v. not (includes_some (sets_in c.args.others.now) (set_of v))) _ (λ x b f' k. search (rules, tests)) _ _ c.retain.ensures.filtered)
    ∙ filter-map (λ s. not (includes_some (sets_in c.args.others.now) s)) set_of c.args.sets.now.items
