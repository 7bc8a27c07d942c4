-- An expression as it was written: its text, its tree, and the places of its requirements.
use Rattle.std.specs.Prelude.{ℕ, List, map}
use denote.Ref.{Bor}
use Rattle.std.specs.List.{zip}
use Rattle.spdx_lexer.specs.Words.{Span}
use Rattle.spdx_parser.specs.Tree.{Tree, leaves}
pub use Rattle.spdx_evaluation.specs.Requirements.{PlacedRequirement, placed_of, nows}

-- the text, the tree that it means, and the spans of the requirements' licences from left to right
pub record Written : Type 0 where
  pub text : List ℕ
  pub tree : Tree
  pub spans : List Span

-- the requirements from left to right, each with its place
abbrev pub placed : Written → List PlacedRequirement
placed w = zip (leaves w.tree) w.spans

-- the trees of some expressions
abbrev pub trees_of : List (Bor Written) → List Tree
trees_of es = map (λ e. e.now.tree) es
