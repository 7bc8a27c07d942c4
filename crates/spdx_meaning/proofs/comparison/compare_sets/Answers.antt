use Rattle.std.proofs.Common.{◌≡◌, sym, subst, ℕ, Bool, true, List, Option, map, string_bytes}
use Rattle.std.specs.Prelude.{◌↔◌, is_none, is_some, not, String}
use Rattle.std.specs.Global.{Global, Vec}
use Rattle.spdx_parser.specs.Tree.{Tree}
use Rattle.spdx_evaluation.specs.Postfix.{tree_in}
use Rattle.spdx_meaning.specs.Meaning.{AsksAtLeast}
use Rattle.spdx_meaning.specs.declared.relation.Relation.{Relation}
use Rattle.spdx_meaning.specs.Relations.{IsRelation}
use Rattle.spdx_meaning.proofs.Meaning.{none_told}
use Rattle.spdx_meaning.proofs.Relating.{is_relation}
use Rattle.spdx_meaning.specs.Apart.{IsAlone}
use Rattle.spdx_meaning.specs.Comparing.{told_names}
use Rattle.spdx_meaning.proofs.Fewest.{asks_none}
use Rattle.spdx_meaning.proofs.comparison.compare_sets.Goals as goal

asks_if_none : (t u : Tree) (found : Option (Vec (String Global))) (b : Bool) → is_some found ≡ not b → IsAlone t u (told_names found) → (b ≡ true) ↔ AsksAtLeast t u
asks_if_none t u found b e alone =
    subst (λ (z : Bool). (z ≡ true) ↔ AsksAtLeast t u) (sym (none_told (λ (names : Vec (String Global)). map string_bytes names.items) found b e)) (asks_none t u (told_names found) alone)

pub returns : goal.returns
returns c =
    let t = tree_in c.args.one.now in
    let u = tree_in c.args.other.now in
    let forth = asks_if_none t u c.in_ok-first_alone.first_alone c.is_none.result c.is_none.ensures c.in_ok-first_alone.ensures in
    let back = asks_if_none u t c.in_ok-second_alone.second_alone c.is_none-2.result c.is_none-2.ensures c.in_ok-second_alone.ensures in
    record {
      relation_is = subst (λ (r : Relation). IsRelation t u r) (sym c.relation_of.ensures) (is_relation t u c.is_none.result c.is_none-2.result forth back);
      first_alone = c.in_ok-first_alone.ensures;
      second_alone = c.in_ok-second_alone.ensures;
    }
