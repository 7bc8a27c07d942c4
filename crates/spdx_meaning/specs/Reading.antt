-- What a text says, and why it isn't told.
use Rattle.std.specs.Prelude.{◌≡◌, ℕ, List, Err, Ok, IsOk, map}
use Rattle.spdx_requirement.specs.Rows.{Rows}
use Rattle.spdx_lexer.specs.declared.token.ParseMode.{ParseMode}
use Rattle.spdx_lexer.specs.Reading.{reading}
use Rattle.spdx_lexer.specs.Words.{Placed, words}
use Rattle.spdx_parser.specs.Tree.{Tree}
use Rattle.spdx_parser.specs.Grammar.{IsTheTree}
use Rattle.spdx_parser.specs.Meaning.{IsRefused}
use Rattle.spdx_parser.specs.declared.node.ExprNode.{ExprNode}
use Rattle.spdx_evaluation.specs.Postfix.{tree_in}
use Rattle.spdx_meaning.specs.Made.{made_in}
use Rattle.spdx_meaning.specs.MeaningText.{IsMeaningText, made_by_rank}
use Rattle.spdx_meaning.specs.declared.reading.Unmeant.{Unmeant}
use Rattle.spdx_meaning.specs.declared.reading.Unmeant.TheVariants.{Unread, TooMany}
use Rattle.std.proofs.Common.{◌⊎◌}

-- the text means that tree, and no other
abbrev pub Says : Rows → ParseMode → List ℕ → Tree → Type 0
Says c m text t =
    (read : List Placed) × (reading c m 0 text ≡ map Ok read) × IsTheTree c m (words read) t

-- the nodes are those of the tree that the text says
abbrev pub IsRead : Rows → ParseMode → List ℕ → List ExprNode → Type 0
IsRead c m text nodes = Says c m text (tree_in nodes)

-- the text is no expression, for this fault; or too many sets are made of its tree, so many
abbrev pub IsUnmeant : Rows → ParseMode → List ℕ → Unmeant → Type 0
IsUnmeant c m text (Unread error) = IsRefused c m text error
IsUnmeant c m text (TooMany many) =
    (t : Tree) × Says c m text t × ((made_in t ≡ Err many.0) ⊎ (made_by_rank t ≡ Err many.0))

-- the text is no expression, for this fault
abbrev pub IsUnread : Rows → ParseMode → List ℕ → Unmeant → Type 0
IsUnread c m text (Unread error) = IsRefused c m text error
IsUnread c m text (TooMany many) = ⊥

-- what the text means, as its meaning text; not too many sets are made of its tree
pub record IsMeaningOf (c : Rows) (m : ParseMode) (text meaning : List ℕ) : Type 0 where
  pub tree : Tree
  pub says : Says c m text tree
  pub few : IsOk (made_by_rank tree)
  pub means : IsMeaningText tree meaning

-- the text has no meaning text: it is no expression, for this fault; or too many sets are made of
-- its tree, so many
abbrev pub IsMeaningless : Rows → ParseMode → List ℕ → Unmeant → Type 0
IsMeaningless c m text (Unread error) = IsRefused c m text error
IsMeaningless c m text (TooMany many) =
    (t : Tree) × Says c m text t × (made_by_rank t ≡ Err many.0)
