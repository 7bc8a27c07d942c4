-- What the machine comes to behind all of some words.
use Rattle.std.proofs.Common.{List, [], ◌∷◌, Option, Some, None}
use Rattle.spdx_requirement.specs.Rows.{Rows}
use Rattle.spdx_lexer.specs.declared.token.ParseMode.{ParseMode}
use Rattle.spdx_lexer.specs.Words.{Word}
use Rattle.spdx_parser.specs.Tree.{Tree}
use Rattle.spdx_parser.proofs.Machine.{State, step, built}

abbrev pub step_on : Rows → ParseMode → Option State → Word → Option State
step_on c m None w = None
step_on c m (Some s) w = step c m s w

-- the state after all the words
abbrev pub run : Rows → ParseMode → Option State → List Word → Option State
run c m s [] = s
run c m s (w ∷ ws) = run c m (step_on c m s w) ws

abbrev pub built_on : Option State → Option Tree
built_on None = None
built_on (Some s) = built s

-- the tree of all the words, from a state
abbrev pub parsed : Rows → ParseMode → State → List Word → Option Tree
parsed c m s ws = built_on (run c m (Some s) ws)
