use Rattle.std.proofs.Common.{rules, lit<}
use Rattle.std.proofs.lemmas.Iterator.Splits.{YieldsList-from_str_split}
use Rattle.std.proofs.lemmas.Iterator.Search.{find_from_yields_List}
use Rattle.spdx_requirement.specs.Versions as spec
use Rattle.spdx_requirement.proofs.id.version_of.Goals as goal

pub returns : goal.returns
returns c =
    find_from_yields_List spec.is_version _ _ _ c.find.ensures.ran
    (YieldsList-from_str_split 45 c.args.name.now (lit< tt) c.split.ensures.text c.split.ensures.has_more c.split.ensures.pattern)
    (λ x b q k. search rules)
