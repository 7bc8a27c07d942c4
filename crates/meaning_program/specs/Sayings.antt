-- What is said of how two expressions compare.
use Rattle.std.specs.Prelude.{ℕ, Bool, true, false, List, [], ◌∷◌, ◌++◌, Option, None, Some, bytes_eq, codes, flat_map, if◌then◌else◌}
use Rattle.spdx_parser.specs.Tree.{Tree}
use Rattle.spdx_canonical.specs.Normal.{normal_text}
use Rattle.spdx_meaning.specs.Comparing.{told_names}
use Rattle.spdx_meaning.specs.declared.comparison.Comparison.{Comparison}
use Rattle.spdx_meaning.specs.declared.relation.Relation.{Relation}
use Rattle.spdx_meaning.specs.declared.relation.Relation.TheVariants.{Same, More, Less, Neither}

-- whether both trees are written alike: but for white space, parentheses and spellings the texts
-- are the same
abbrev pub alike : Tree → Tree → Bool
alike t u = bytes_eq (normal_text t) (normal_text u)

-- of two texts that mean the same
abbrev pub same_line : Bool → Bool → List ℕ
same_line is_same_text is_alike =
    if is_same_text then codes "the same text\n"
    else (if is_alike then codes "the same tree\n" else codes "the same meaning\n")

abbrev pub relation_line : Bool → Bool → Relation → List ℕ
relation_line is_same_text is_alike Same = same_line is_same_text is_alike
relation_line is_same_text is_alike More = codes "the first asks for more\n"
relation_line is_same_text is_alike Less = codes "the second asks for more\n"
relation_line is_same_text is_alike Neither = codes "each asks for what the other doesn't\n"

abbrev pub joined_names : List (List ℕ) → List ℕ
joined_names [] = []
joined_names (name ∷ names) =
    codes "  with " ++ (name ++ flat_map (λ n. codes " and " ++ n) names)

-- what holds where these alone are accepted, where there are such
abbrev pub alone_line : List ℕ → Option (List (List ℕ)) → List ℕ
alone_line holds None = []
alone_line holds (Some names) =
    joined_names names ++ (codes " alone, " ++ (holds ++ codes "\n"))

-- the relation, and the fewest with which each holds and the other one doesn't
unfoldable pub told_text : Bool → Bool → Comparison → List ℕ
told_text is_same_text is_alike x =
    relation_line is_same_text is_alike x.relation ++
    (alone_line (codes "the first holds, and not the second") (told_names x.first_alone) ++
    alone_line (codes "the second holds, and not the first") (told_names x.second_alone))
