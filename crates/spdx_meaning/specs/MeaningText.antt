-- What the meaning text of a tree is.
use Rattle.std.specs.Prelude.{◌≡◌, ℕ, List, Result}
use Rattle.spdx_requirement.specs.Items.{Requirement}
use Rattle.spdx_parser.specs.Tree.{Tree, leaves}
use Rattle.spdx_meaning.specs.Made.{made_by}
use Rattle.spdx_meaning.specs.Ranks.{rank_in}
use Rattle.spdx_meaning.specs.LeastSets.{AreLeastSets}
use Rattle.spdx_meaning.specs.Joined.{sets_text}

-- the text of the tree's least sets
pub record IsMeaningText (t : Tree) (text : List ℕ) : Type 0 where
  pub sets : List (List Requirement)
  pub least : AreLeastSets t sets
  pub written : text ≡ sets_text sets

-- the sets that are made of a tree whose requirements are their ranks, or how many, where they are
-- too many
abbrev pub made_by_rank : Tree → Result (List (List ℕ)) ℕ
made_by_rank t = made_by (rank_in (leaves t)) t
