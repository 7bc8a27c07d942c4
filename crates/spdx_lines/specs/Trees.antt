-- The trees that are kept.
use Rattle.std.specs.Prelude.{List, map}
use Rattle.spdx_parser.specs.Tree.{Tree}
use Rattle.spdx_lines.specs.declared.kept.Kept.{Kept}

abbrev pub trees_in : Kept → List Tree
trees_in kept = map (λ e. e.tree) kept.expressions.items
