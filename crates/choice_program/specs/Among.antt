-- What packages are used under among licences that are accepted.
use Rattle.std.specs.Prelude.{◌≡◌, ◌≢◌, ℕ, Bool, true, false, List, [], ◌∷◌, ◌++◌, Option, Some, None, map, string_bytes}
use Rattle.std.specs.List.{AllZip}
use Rattle.spdx_requirement.specs.Items.{Requirement}
use Rattle.spdx_requirement.specs.Rows.{Rows}
use Rattle.spdx_lexer.specs.declared.token.ParseMode.{ParseMode}
use Rattle.spdx_lexer.specs.Faults.{fault_of}
use Rattle.spdx_lexer.specs.Words.{Span}
use Rattle.spdx_parser.specs.Faults.{HasNoTree, IsFaultOf}
use Rattle.spdx_parser.specs.Tree.{Tree, leaves}
use Rattle.spdx_minimize.specs.declared.minimize_error.MinimizeError.{MinimizeError}
use Rattle.spdx_minimize.specs.Choice.{chosen, choice_of}
use Rattle.spdx_minimize.specs.MinimizeFaults.{refused_choice}
use Rattle.spdx_gate.specs.Reports.{Means}
use Rattle.package_items.specs.declared.package.Package.{Package}
use Rattle.package_choices.specs.declared.accepted.unmet.Unmet.{Unmet}
use Rattle.package_choices.specs.declared.accepted.unmet.Unmet.TheVariants.{Expression, Together}
use Rattle.package_choices.specs.Accepted.{IsJoint, held, own_choice}
use Rattle.gate_program.specs.Files.{stated_in}
use Rattle.choice_program.specs.declared.accepted.AllStated.{AllStated}
use Rattle.choice_program.specs.declared.accepted.OwnChoices.{OwnChoices}
use Rattle.choice_program.specs.declared.accepted.Stated.{Stated}
use Rattle.choice_program.specs.declared.choosing.ChoiceTrouble.{ChoiceTrouble}
use Rattle.choice_program.specs.declared.choosing.ChoiceTrouble.TheVariants as trouble
use Rattle.choice_program.specs.declared.choosing.Chosen.{Chosen}
use Rattle.choice_program.specs.declared.unchosen.Unchosen.{Unchosen}
use Rattle.choice_program.specs.declared.unchosen.Why.{Why}
use Rattle.choice_program.specs.declared.unchosen.Why.TheVariants as why
use Rattle.package_items.specs.Each.{AreHad}
use Rattle.choice_program.specs.Named.{named, shown_all}
use Rattle.choice_program.specs.Unchosen.{IsUnchosen}

-- ---- what packages state

-- a package, and the tree that its text means
pub record Meant : Type 0 where
  pub of : Package
  pub tree : Tree

abbrev pub meant_of : Stated → Meant
meant_of s = record { of = s.listed.now; tree = s.expression.tree }

abbrev pub trees_in : List Meant → List Tree
trees_in meant = map (λ (x : Meant). x.tree) meant

abbrev pub IsExpressionBy : Rows → ParseMode → Option (List ℕ) → Tree → Type 0
IsExpressionBy c m None t = ⊥
IsExpressionBy c m (Some text) t = Means c m text t

-- the package states a text that means the tree
abbrev pub IsExpressionOf : Rows → ParseMode → Package → Tree → Type 0
IsExpressionOf c m p t = IsExpressionBy c m (stated_in p.license) t

abbrev pub IsMeant : Rows → ParseMode → Package → Meant → Type 0
IsMeant c m p x = (x.of ≡ p) × IsExpressionOf c m p x.tree

-- the text has no tree, for this reason
abbrev pub IsNoText : Rows → ParseMode → List ℕ → Why → Type 0
IsNoText c m text (why.Unreadable told r) =
    (string_bytes told ≡ text) × HasNoTree c m text ×
    ((span : Span) × IsFaultOf c m text (fault_of r) span)
IsNoText c m text w = ⊥

abbrev pub IsUnreadable : Rows → ParseMode → Package → List ℕ → Unchosen → Type 0
IsUnreadable c m p text u = IsUnchosen p (IsNoText c m text) u

abbrev pub IsUnreadBy : Rows → ParseMode → Option (List ℕ) → Why → Type 0
IsUnreadBy c m None w = w ≡ why.Unstated
IsUnreadBy c m (Some text) w = IsNoText c m text w

-- the package states no text, or one that has no tree
abbrev pub IsUnread : Rows → ParseMode → Package → Unchosen → Type 0
IsUnread c m p u = IsUnchosen p (IsUnreadBy c m (stated_in p.license)) u

-- ---- their choices

-- the least choice of the package alone
abbrev pub HasOwn : List Requirement → Meant → List Requirement → Type 0
HasOwn licensees x rs = own_choice licensees x.tree ≡ chosen rs

-- there is none, for this reason
abbrev pub IsUnmet : List Requirement → Tree → Why → Type 0
IsUnmet licensees t (why.Unmet e) = own_choice licensees t ≡ refused_choice e
IsUnmet licensees t w = ⊥

abbrev pub HasNoOwn : List Requirement → Meant → Unchosen → Type 0
HasNoOwn licensees x u = IsUnchosen x.of (IsUnmet licensees x.tree) u

abbrev pub IsJointOf : List Requirement → List Meant → List (List Requirement) → Type 0
IsJointOf licensees meant choices = IsJoint licensees (trees_in meant) choices

-- each has its own, or there is one for all
abbrev pub AreChosen : Bool → List Requirement → List Meant → List (List Requirement) → Type 0
AreChosen false licensees meant choices = AllZip (HasOwn licensees) meant choices
AreChosen true licensees meant choices = IsJointOf licensees meant choices

-- what is told of them: the requirements of each choice, and all of each expression
pub record IsChosenOf (one : Bool) (licensees : List Requirement) (meant : List Meant)
    (chosen : Chosen) : Type 0 where
  pub choices : List (List Requirement)
  pub are_chosen : AreChosen one licensees meant choices
  pub choices_are : shown_all chosen.choices.items ≡ map (map named) choices
  pub offered_are : shown_all chosen.offered.items
      ≡ map (λ (t : Tree). map named (leaves t)) (trees_in meant)

-- ---- why there are none

-- some packages state no expression
pub record AreUnread (c : Rows) (m : ParseMode) (packages : List Package)
    (lacking : List Unchosen) : Type 0 where
  pub meant : List Meant
  pub each : AreHad (IsMeant c m) (IsUnread c m) packages meant lacking
  pub some : lacking ≢ []

abbrev pub LackStated : Rows → ParseMode → List Package → ChoiceTrouble → Type 0
LackStated c m packages (trouble.NoChoices us) = AreUnread c m packages us.items
LackStated c m packages trouble.Memory = Unit {0}
LackStated c m packages t = ⊥

-- some have no choice of their own
pub record AreUnmet (licensees : List Requirement) (meant : List Meant)
    (lacking : List Unchosen) : Type 0 where
  pub choices : List (List Requirement)
  pub each : AreHad (HasOwn licensees) (HasNoOwn licensees) meant choices lacking
  pub some : lacking ≢ []

abbrev pub LackOwn : List Requirement → List Meant → ChoiceTrouble → Type 0
LackOwn licensees meant (trouble.NoChoices us) = AreUnmet licensees meant us.items
LackOwn licensees meant trouble.Memory = Unit {0}
LackOwn licensees meant t = ⊥

abbrev pub IsUnmetTogether : List Requirement → List Meant → Why → Type 0
IsUnmetTogether licensees meant (why.Unmet e) =
    choice_of (trees_in meant) licensees ≡ refused_choice e
IsUnmetTogether licensees meant w = ⊥

abbrev pub IsNoneOf : List Requirement → List Meant → ChoiceTrouble → Type 0
IsNoneOf licensees meant (trouble.NoneTogether w) = IsUnmetTogether licensees meant w
IsNoneOf licensees meant trouble.Memory = Unit {0}
IsNoneOf licensees meant t = ⊥

-- each has one of its own, and there is none for all of them
pub record IsNoneTogether (licensees : List Requirement) (meant : List Meant) (w : Why) :
    Type 0 where
  pub own : List (List Requirement)
  pub each : AllZip (HasOwn licensees) meant own
  pub unmet : IsUnmetTogether licensees meant w

abbrev pub AreNotChosen : Bool → List Requirement → List Meant → ChoiceTrouble → Type 0
AreNotChosen one licensees meant (trouble.NoChoices us) = AreUnmet licensees meant us.items
AreNotChosen one licensees meant (trouble.NoneTogether w) =
    (one ≡ true) × IsNoneTogether licensees meant w
AreNotChosen one licensees meant trouble.Memory = Unit {0}
AreNotChosen one licensees meant t = ⊥

-- ---- the parts of it, which only private clauses cite

abbrev pub AreStated : Rows → ParseMode → List Package → AllStated → Type 0
AreStated c m packages all =
    AreHad (IsMeant c m) (IsUnread c m) packages (map meant_of all.stated.items) all.lacking.items

-- one package more
abbrev pub IsOneStated : Rows → ParseMode → Package → AllStated → AllStated → Type 0
IsOneStated c m p old new =
    (packages : List Package) → AreStated c m packages old → AreStated c m (packages ++ p ∷ []) new

abbrev pub AreOwn : List Requirement → List Meant → OwnChoices → Type 0
AreOwn licensees meant own =
    AreHad (HasOwn licensees) (HasNoOwn licensees) meant (held own.choices.items) own.lacking.items

abbrev pub IsOneOwn : List Requirement → Meant → OwnChoices → OwnChoices → Type 0
IsOneOwn licensees x old new =
    (meant : List Meant) → AreOwn licensees meant old → AreOwn licensees (meant ++ x ∷ []) new

abbrev pub error_of : Unmet → MinimizeError
error_of (Expression place e) = e
error_of (Together e) = e
