use Rattle.std.proofs.Common.{rules, tests, sym, ◌∙◌}
use Rattle.std.proofs.lemmas.Iterator.{YieldsList-from_slice}
use Rattle.std.proofs.lemmas.Iterator.Search.{any_from_yields_List}
use Rattle.selections.specs.Sets.{includes, set_of}
use Rattle.selections.proofs.Lists.{list_any-map}
use Rattle.selections.proofs.sets.includes_some.Goals as goal

pub returns : goal.returns
returns c =
    any_from_yields_List (λ v. includes c.args.set.now (set_of v)) _ _ c.any.result c.any.ensures.ran (YieldsList-from_slice c.args.sets.now cc) (λ x b q k. search (rules, tests))
    ∙ sym (list_any-map (includes c.args.set.now) set_of c.args.sets.now)
