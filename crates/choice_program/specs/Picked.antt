-- Requirements that are chosen of expressions which a policy has judged.
use Rattle.std.specs.Prelude.{◌≡◌, ◌==◌, ℕ, suc, Bool, true, false, List, [], ◌∷◌, ◌++◌, Option, Some, map, slice_get, if◌then◌else◌}
use Rattle.std.specs.List.{list_any}
use Rattle.spdx_requirement.specs.Items.{Requirement}
use Rattle.spdx_parser.specs.Tree.{Tree, leaves}
use Rattle.spdx_evaluation.specs.Postfix.{tree_in}
use Rattle.spdx_why.specs.declared.choice.Remedy.{Remedy}
use Rattle.spdx_why.specs.declared.choice.Remedy.TheVariants.{Accept}
use Rattle.spdx_why.specs.Least.{advised, chosen}
use Rattle.spdx_gate.specs.declared.judged.Judged.{Judged}
use Rattle.package_choices.specs.Choice.{Offered, joint_of, together, too_many}
use Rattle.package_choices.specs.Texts.{judged_offer}
use Rattle.choice_program.specs.declared.choosing.ChoiceTrouble.{ChoiceTrouble}
use Rattle.choice_program.specs.declared.choosing.ChoiceTrouble.TheVariants as trouble
use Rattle.choice_program.specs.declared.choosing.Chosen.{Chosen}
use Rattle.choice_program.specs.declared.unchosen.Why.{Why}
use Rattle.choice_program.specs.declared.unchosen.Why.TheVariants as why
use Rattle.choice_program.specs.Named.{named, shown_all}
use Rattle.choice_program.specs.declared.picked.Picked.{Picked}

-- what a policy says of an expression, and the numbers of the requirements that are chosen
pub record Pick : Type 0 where
  pub judged : Judged
  pub numbers : List ℕ

abbrev pub pick_of : Picked → Pick
pick_of x = record { judged = x.judged.now; numbers = x.numbers.now }

abbrev pub tree_of : Pick → Tree
tree_of x = tree_in x.judged.nodes.items

abbrev pub kept_if : Bool → Requirement → List Requirement
kept_if b r = if b then r ∷ [] else []

-- the requirements whose number is one of these, where the first has the number k
abbrev pub numbered : List ℕ → ℕ → List Requirement → List Requirement
numbered numbers k [] = []
numbered numbers k (r ∷ rs) =
    kept_if (list_any (λ n. n == k) numbers) r ++ numbered numbers (suc k) rs

-- those that are chosen of it, in the order of the text
abbrev pub requirements_of : Pick → List Requirement
requirements_of x = numbered x.numbers 0 (leaves (tree_of x))

-- ---- one choice for all

abbrev pub judged_in : List Pick → List Judged
judged_in own = map (λ (x : Pick). x.judged) own

abbrev pub numbers_in : List Pick → List (List ℕ)
numbers_in own = map (λ (x : Pick). x.numbers) own

-- the expressions with what the policy allows of them
abbrev pub offers_in : List Pick → List Offered
offers_in own = map judged_offer (judged_in own)

-- the same expressions, with the numbers of their parts of one choice for all
pub record AreJointParts (own parts : List Pick) : Type 0 where
  pub of_the_same : judged_in parts ≡ judged_in own
  pub joint : joint_of (offers_in own) ≡ together (map chosen (numbers_in parts))

abbrev pub AreParts : Bool → List Pick → List Pick → Type 0
AreParts false own parts = parts ≡ own
AreParts true own parts = AreJointParts own parts

-- what is told of them: the requirements of each part, and all of each expression
pub record AreNamed (own parts : List Pick) (chosen : Chosen) : Type 0 where
  pub choices_are : shown_all chosen.choices.items ≡ map (map named) (map requirements_of parts)
  pub offered_are : shown_all chosen.offered.items
      ≡ map (λ (x : Pick). map named (leaves (tree_of x))) own

pub record ArePicked (one : Bool) (own : List Pick) (chosen : Chosen) : Type 0 where
  pub parts : List Pick
  pub are_parts : AreParts one own parts
  pub named_are : AreNamed own parts chosen

-- there is no choice for all, since the policy allows so many requirements of them
abbrev pub IsTooMany : List Pick → Why → Type 0
IsTooMany own w = (w ≡ why.TooMany) × ((n : ℕ) × (joint_of (offers_in own) ≡ too_many n))

-- nothing is said of memory
abbrev pub IsNonePicked : Bool → List Pick → ChoiceTrouble → Type 0
IsNonePicked one own (trouble.NoneTogether w) = (one ≡ true) × IsTooMany own w
IsNonePicked one own trouble.Memory = Unit {0}
IsNonePicked one own t = ⊥

-- ---- the parts of it, which only private clauses cite

abbrev pub numbers_by : Option Remedy → List ℕ
numbers_by (Some (Accept v)) = v.items
numbers_by r = []

-- an expression with the numbers of the remedy of that place
abbrev pub part_at : List Remedy → ℕ → Pick → Pick
part_at remedies k x =
    record { judged = x.judged; numbers = numbers_by (slice_get remedies k) }

-- each with those of its own, from that place on
abbrev pub parts_from : List Remedy → ℕ → List Pick → List Pick
parts_from remedies k [] = []
parts_from remedies k (x ∷ xs) = part_at remedies k x ∷ parts_from remedies (suc k) xs

-- each of the remedies is a choice, and together they are the one for all
abbrev pub AreTogether : List Offered → List Remedy → Type 0
AreTogether offers remedies =
    (numbers : List (List ℕ)) × (map advised remedies ≡ map chosen numbers) ×
    (joint_of offers ≡ together (map chosen numbers))

abbrev pub IsNoJoint : List Offered → ChoiceTrouble → Type 0
IsNoJoint offers (trouble.NoneTogether w) =
    (w ≡ why.TooMany) × ((n : ℕ) × (joint_of offers ≡ too_many n))
IsNoJoint offers trouble.Memory = Unit {0}
IsNoJoint offers t = ⊥
