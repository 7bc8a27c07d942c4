-- The least choice sees which expressions are there, and not how often or in what order.
use Rattle.std.specs.Prelude.{◌≡◌, ◌↔◌, List, Contains}
use Rattle.spdx_requirement.specs.Items.{Requirement}
use Rattle.spdx_parser.specs.Tree.{Tree}
use Rattle.spdx_minimize.specs.Choice.{choice_of}

-- the same are members of both
abbrev pub SameMembers : {A : Type 0} → List A → List A → Type 0
SameMembers {A} xs ys = (x : A) → Contains xs x ↔ Contains ys x

abbrev pub DoublesChangeNoChoice : Type 0
DoublesChangeNoChoice =
    (trees others : List Tree) (licensees : List Requirement) → SameMembers trees others →
    choice_of trees licensees ≡ choice_of others licensees
