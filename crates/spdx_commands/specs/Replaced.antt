-- What was tried to put in the places of files, and what came of it.
use Rattle.std.specs.Prelude.{◌==◌, ◌&&◌, ℕ, Bool, true, false, List, [], ◌∷◌, Result, Ok, Err, if◌then◌else◌}
use Rattle.std.specs.List.{list_any}
use Rattle.shelves.specs.declared.shelf.Stamp.{Stamp}
use Rattle.spdx_commands.specs.declared.mending.replacing.Loss.{Loss}
use Rattle.spdx_commands.specs.declared.mending.replacing.Obstacle.{Obstacle}
use Rattle.spdx_commands.specs.declared.mending.replacing.Obstacle.TheVariants as obstacle
use Rattle.spdx_troubles.specs.Causes as causes

-- these bytes were to take the place of the file's, which was known by the stamp when it was read, be
-- it that it has other names, which keep the old ones then, or only where it has none
pub record Attempt : Type 0 where
  pub path : List ℕ
  pub stamp : Stamp
  pub breaks_links : Bool
  pub bytes : List ℕ
  pub answer : Result Loss Obstacle

abbrev pub attempt : List ℕ → Stamp → Bool → List ℕ → Result Loss Obstacle → Attempt
attempt path stamp breaks_links bytes answer = record {
  path = path;
  stamp = stamp;
  breaks_links = breaks_links;
  bytes = bytes;
  answer = answer;
}

-- memory was refused
abbrev pub is_of_memory : Result Loss Obstacle → Bool
is_of_memory (Err (obstacle.Failed e)) = causes.is_of_memory e
is_of_memory _ = false

-- what is kept of it; nothing, where memory was refused
abbrev pub noted : Attempt → List Attempt
noted a = if is_of_memory a.answer then [] else a ∷ []

-- the file holds the bytes
abbrev pub is_placed : Result Loss Obstacle → Bool
is_placed (Ok loss) = true
is_placed (Err o) = false

-- both are of one file, whatever it is called
abbrev pub same_node : Stamp → Stamp → Bool
same_node a b = (a.device == b.device) && (a.node == b.node)

-- the file of the stamp holds new bytes already
abbrev pub is_replaced : List Attempt → Stamp → Bool
is_replaced tried x = list_any (λ (a : Attempt). is_placed a.answer && same_node a.stamp x) tried
