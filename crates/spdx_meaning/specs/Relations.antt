-- How what two trees ask compares.
use Rattle.std.specs.Prelude.{Bool, true, false}
use Rattle.spdx_parser.specs.Tree.{Tree}
use Rattle.spdx_meaning.specs.declared.relation.Relation.{Relation}
use Rattle.spdx_meaning.specs.declared.relation.Relation.TheVariants.{Same, More, Less, Neither}
use Rattle.spdx_meaning.specs.Meaning.{AsksAtLeast, IsEquivalent}

abbrev pub IsRelation : Tree → Tree → Relation → Type 0
IsRelation t u Same = IsEquivalent t u
IsRelation t u More = AsksAtLeast t u × (AsksAtLeast u t → ⊥)
IsRelation t u Less = (AsksAtLeast t u → ⊥) × AsksAtLeast u t
IsRelation t u Neither = (AsksAtLeast t u → ⊥) × (AsksAtLeast u t → ⊥)

-- from whether the first asks at least what the second does, and the other way round
abbrev pub relation_of : Bool → Bool → Relation
relation_of true true = Same
relation_of true false = More
relation_of false true = Less
relation_of false false = Neither
