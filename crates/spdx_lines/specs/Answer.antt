-- How the answer to a line begins, and what is kept of the accepted lines.
use Rattle.std.specs.Prelude.{◌≡◌, ℕ, true, List, [], ◌∷◌, ◌++◌, All, codes}
use Rattle.spdx_requirement.specs.Rows.{Rows}
use Rattle.spdx_parser.specs.Tree.{Tree}
use Rattle.spdx_parser.specs.Meaning.{IsOfRows}
use Rattle.spdx_minimize.specs.Doubles.{SameMembers}
use Rattle.spdx_lines.specs.declared.lines.LineMode.{LineMode}
use Rattle.spdx_lines.specs.Verdict.{Accepted, verdict_text, counts_as_refused, tree_in}
use Rattle.spdx_lines.specs.Found.{verdict}

-- the line is accepted with this tree, and its first two columns are written
pub record AcceptsSo (c : Rows) (mode : LineMode) (line old new : List ℕ) (t : Tree) : Type 0 where
  pub column : List ℕ
  pub is : verdict c mode line ≡ Accepted t column
  pub written : new ≡ old ++ (codes "accepted" ++ (9 ∷ column))
  pub rows_are : IsOfRows c t

-- the line is refused, and all of its answer is written
pub record RefusesSo (c : Rows) (mode : LineMode) (line old new : List ℕ) : Type 0 where
  pub refused : counts_as_refused (verdict c mode line) ≡ true
  pub no_tree : tree_in (verdict c mode line) ≡ []
  pub written : (behind : Tree → List ℕ) → new ≡ old ++ verdict_text behind (verdict c mode line)

-- these trees of the catalogue are kept of those, each at least once
pub record AreKept (c : Rows) (kept trees : List Tree) : Type 0 where
  pub same : SameMembers kept trees
  pub rows_are : All (IsOfRows c) kept
