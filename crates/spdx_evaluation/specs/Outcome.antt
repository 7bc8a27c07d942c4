-- The tree of a text, or its fault, found by reading its words in turn.
use Rattle.std.specs.Prelude.{ℕ, ◌==◌, List, [], ◌∷◌, length, map, Option, Some, None, Result, Ok, Err, if◌then◌else◌}
use Rattle.spdx_requirement.specs.Rows.{Rows}
use Rattle.spdx_lexer.specs.declared.token.ParseMode.{ParseMode}
use Rattle.spdx_lexer.specs.Words.{Fault, Unexpected, UnclosedParens, Empty, Span, span, Item}
use Rattle.spdx_lexer.specs.Reading.{reading}
use Rattle.spdx_parser.specs.Tree.{Tree}
use Rattle.spdx_parser.specs.Nodes.{PlacedNode}
use Rattle.spdx_parser.specs.Last.{is_closing, terms}
use Rattle.spdx_parser.specs.Faults.{fault_behind}
use Rattle.spdx_parser.specs.State.{State, start, step, require, all_joined}
use Rattle.spdx_evaluation.specs.Postfix.{tree_of}

abbrev pub Outcome : Type 0
Outcome = Result Tree (Fault × Span)

-- where an expression can end: the tree of the nodes, or the place of the innermost parenthesis
-- that is open
abbrev pub ended : State → List Span → Outcome
ended s [] = Ok (tree_of (map (λ (n : PlacedNode). n.0) (all_joined (require s None))))
ended s (place ∷ outer) = Err (UnclosedParens, place)

-- at the end of a text of so many bytes
abbrev pub at_end : ℕ → State → Outcome
at_end len s =
    if is_closing s.last then ended s (map (λ o. o.0) s.opened)
    else Err (Unexpected (terms s.last), span len 0)

-- the fault, where the word leads to no state
abbrev pub behind_word : Fault × Span → Option State → (State → Outcome) → Outcome
behind_word fault None more = Err fault
behind_word fault (Some s) more = more s

-- of the items that are left, behind words that led to this state
abbrev pub outcome_behind : Rows → ParseMode → ℕ → List Item → State → Outcome
outcome_behind c m len [] s = at_end len s
outcome_behind c m len (Err fault ∷ items) s = Err fault
outcome_behind c m len (Ok p ∷ items) s =
    behind_word (fault_behind m s.last (length s.opened == 0) p.0, p.1) (step c m s p)
    (λ next. outcome_behind c m len items next)

-- of all items of a text of so many bytes
abbrev pub outcome_of : Rows → ParseMode → ℕ → List Item → Outcome
outcome_of c m len [] = Err (Empty, span 0 len)
outcome_of c m len items = outcome_behind c m len items start

-- The tree that the grammar derives from the words of a text; where there is none, the fault of the
-- first place at which no expression goes on.
unfoldable pub outcome : Rows → ParseMode → List ℕ → Outcome
outcome c m text = outcome_of c m (length text) (reading c m 0 text)
