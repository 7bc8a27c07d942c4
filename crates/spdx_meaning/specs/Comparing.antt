-- How what two trees ask compares, and what tells them apart.
use Rattle.std.specs.Prelude.{ℕ, List, Option, String, map, option_map, string_bytes}
use Rattle.std.specs.Global.{Global, Vec}
use Rattle.spdx_parser.specs.Tree.{Tree}
use Rattle.spdx_meaning.specs.Relations.{IsRelation}
use Rattle.spdx_meaning.specs.declared.comparison.Comparison.{Comparison}
use Rattle.spdx_meaning.specs.Apart.{IsAlone}

abbrev pub told_names : Option (Vec (String Global)) → Option (List (List ℕ))
told_names found = option_map (λ (names : Vec (String Global)). map string_bytes names.items) found

-- how the trees compare, and the fewest requirements with which each holds and the other one
-- doesn't
pub record IsComparisonOf (t u : Tree) (x : Comparison) : Type 0 where
  pub relation_is : IsRelation t u x.relation
  pub first_alone : IsAlone t u (told_names x.first_alone)
  pub second_alone : IsAlone u t (told_names x.second_alone)
