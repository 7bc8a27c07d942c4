use Rattle.std.proofs.Common.{List, ℕ, rules, lit<}
use Rattle.std.specs.Prelude.{codes, bytes_eq}
use Rattle.std.proofs.lemmas.Iterator.Splits.{YieldsList-from_str_split}
use Rattle.std.proofs.lemmas.Iterator.Search.{any_from_yields_List}
use Rattle.fix_program.proofs.diffs.leads_above.Goals as goal

pub returns : goal.returns
returns c =
    any_from_yields_List (λ (part : List ℕ). bytes_eq part (codes "..")) _ _ c.any.result c.any.ensures.ran
    (YieldsList-from_str_split 47 c.args.path.now (lit< tt) c.split.ensures.text c.split.ensures.has_more c.split.ensures.pattern)
    (λ x b q k. search rules)
