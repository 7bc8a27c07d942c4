-- What is told of how two texts compare.
use Rattle.std.specs.Prelude.{◌≡◌, ◌↔◌, ◌⊎◌, ℕ, Bool, true, false, List, bytes_eq, map}
use Rattle.std.specs.Option.{option_copied}
use Rattle.shelves.specs.Shelf.{Shelved}
use Rattle.spdx_requirement.specs.Rows.{Rows}
use Rattle.spdx_parser.specs.Tree.{Tree, node_of}
use Rattle.spdx_evaluation.specs.Postfix.{IsPostfix, tree_in}
use Rattle.selections.specs.Sets.{sets_in}
use Rattle.spdx_meaning.specs.Minimal.{AreMinimalSets}
use Rattle.spdx_meaning.specs.Meaning.{IsEquivalent}
use Rattle.spdx_meaning.specs.declared.relation.Relation.{Relation}
use Rattle.spdx_meaning.specs.declared.relation.Relation.TheVariants.{Same, More, Less, Neither}
use Rattle.spdx_meaning.specs.declared.comparison.Comparison.{Comparison}
use Rattle.spdx_meaning.specs.Comparing.{IsComparisonOf}
use Rattle.spdx_meaning.specs.Reading.{IsUnmeant, Says}
use Rattle.spdx_meaning.specs.declared.reading.Unmeant.{Unmeant}
use Rattle.list_program.specs.Named.{InsideBytes, IsNamedList}
use Rattle.list_program.specs.Troubles.{IsNoNamedList}
use Rattle.meaning_program.specs.declared.compared.TextPair.{TextPair}
use Rattle.meaning_program.specs.declared.compared.Compared.{Compared}
use Rattle.meaning_program.specs.declared.compared.Meant.{Meant}
use Rattle.meaning_program.specs.declared.trouble.MeaningTrouble.{MeaningTrouble}
use Rattle.meaning_program.specs.declared.trouble.MeaningTrouble.TheVariants as trouble
use Rattle.meaning_program.specs.Reading.{mode_by, read_as}
use Rattle.meaning_program.specs.Sayings.{alike, told_text}
use Rattle.meaning_program.specs.Troubles.{IsToldAs, IsUnsaid}

abbrev pub is_same : Relation → Bool
is_same Same = true
is_same _ = false

-- what is told of two trees, which the two texts say
pub record IsToldOf (one other : List ℕ) (t u : Tree) (told : Compared) : Type 0 where
  pub comparison : Comparison
  pub compares : IsComparisonOf t u comparison
  pub text_is : told.text.items ≡ told_text (bytes_eq one other) (alike t u) comparison
  pub same_is : told.is_same ≡ is_same comparison.relation

-- of two texts by this list
pub record IsComparedBy (c : Rows) (a : TextPair) (told : Compared) : Type 0 where
  pub first : Tree
  pub second : Tree
  pub first_is : Says c (mode_by a.is_lax) (read_as c a.is_lax a.one.now) first
  pub second_is : Says c (mode_by a.is_lax) (read_as c a.is_lax a.other.now) second
  pub told_is : IsToldOf a.one.now a.other.now first second told

-- ---- a text that is read. Only private clauses cite it.

abbrev pub HasSets : Meant → Type 0
HasSets x =
    IsPostfix (map node_of x.nodes.items)
    × AreMinimalSets (tree_in x.nodes.items) (sets_in x.sets.items)

pub record IsMeant (c : Rows) (is_lax : Bool) (text : List ℕ) (x : Meant) : Type 0 where
  pub says : Says c (mode_by is_lax) text (tree_in x.nodes.items)
  pub has_sets : HasSets x

-- it has no meaning that is told
abbrev pub IsUnmeantText : Rows → Bool → List ℕ → MeaningTrouble → Type 0
IsUnmeantText c is_lax text (trouble.List t) = ⊥
IsUnmeantText c is_lax text (trouble.Unsaid u) =
    (why : Unmeant) × IsUnmeant c (mode_by is_lax) text why × IsToldAs text why u
IsUnmeantText c is_lax text trouble.Memory = Unit {0}

-- one of them has no meaning that is told
abbrev pub IsUnsaidOf : Rows → TextPair → MeaningTrouble → Type 0
IsUnsaidOf c a (trouble.List t) = ⊥
IsUnsaidOf c a (trouble.Unsaid u) =
    IsUnsaid c a.is_lax a.one.now u ⊎ IsUnsaid c a.is_lax a.other.now u
IsUnsaidOf c a trouble.Memory = Unit {0}

-- by the list that is named, or else is inside
pub record IsCompared (s : Shelved) (inside : InsideBytes) (a : TextPair) (told : Compared) : Type 0 where
  pub catalogue : Rows
  pub list_is : IsNamedList s inside (option_copied a.list) catalogue
  pub compared_is : IsComparedBy catalogue a told

-- why nothing is told; nothing is said of memory
abbrev pub IsNotCompared : Shelved → InsideBytes → TextPair → MeaningTrouble → Type 0
IsNotCompared s inside a (trouble.List t) = IsNoNamedList s inside (option_copied a.list) t
IsNotCompared s inside a (trouble.Unsaid u) =
    (c : Rows) × IsNamedList s inside (option_copied a.list) c
    × (IsUnsaid c a.is_lax a.one.now u ⊎ IsUnsaid c a.is_lax a.other.now u)
IsNotCompared s inside a trouble.Memory = Unit {0}

-- by the list that is read each text says one tree, and it is told that they mean the same exactly
-- if whatever is accepted both hold or none does
pub record TellsSame (s : Shelved) (inside : InsideBytes) (a : TextPair) (told : Compared) : Type 0 where
  pub catalogue : Rows
  pub first : Tree
  pub second : Tree
  pub list_is : IsNamedList s inside (option_copied a.list) catalogue
  pub first_is : Says catalogue (mode_by a.is_lax) (read_as catalogue a.is_lax a.one.now) first
  pub second_is :
      Says catalogue (mode_by a.is_lax) (read_as catalogue a.is_lax a.other.now) second
  pub same : (told.is_same ≡ true) ↔ IsEquivalent first second
