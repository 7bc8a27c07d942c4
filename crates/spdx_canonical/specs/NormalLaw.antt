-- What is said of the normal text of a tree that strict parsing gives.
use Rattle.std.specs.Prelude.{ℕ, ◌+◌, ◌≤◌, List, [], ◌∷◌, IsTrue}
use Rattle.spdx_requirement.specs.Rows.{Rows}
use Rattle.spdx_catalogue.specs.RowRules.{is_well_formed}
use Rattle.spdx_requirement.specs.Items.{Requirement}
use Rattle.spdx_lexer.specs.Modes.{strict}
use Rattle.spdx_lexer.specs.Words.{Word, OpenParen, CloseParen}
use Rattle.spdx_lexer.specs.Reading.{Spells}
use Rattle.spdx_parser.specs.Tree.{Tree, Leaf, Join}
use Rattle.spdx_parser.specs.Grammar.{Derives, IsTheTree}

-- P holds of each requirement of the tree
abbrev pub EachLeaf : (Requirement → Type 0) → Tree → Type 0
EachLeaf P (Leaf r) = P r
EachLeaf P (Join o l r) = EachLeaf P l × EachLeaf P r

-- over this catalogue some text is read strictly, without a fault, as words that mean the tree
pub record IsStrict (c : Rows) (t : Tree) : Type 0 where
  pub well_formed : IsTrue (is_well_formed c)
  pub text : List ℕ
  pub words : List Word
  pub read : Spells c strict text words
  pub means : Derives c strict words t

-- the text is read strictly, without a fault, as words that mean the tree, and no other
pub record ReadsAs (c : Rows) (text : List ℕ) (t : Tree) : Type 0 where
  pub words : List Word
  pub read : Spells c strict text words
  pub meant : IsTheTree c strict words t

-- how many parentheses stand among words
abbrev pub paren_of : Word → ℕ
paren_of OpenParen = 1
paren_of CloseParen = 1
paren_of _ = 0

abbrev pub parens : List Word → ℕ
parens [] = 0
parens (w ∷ ws) = paren_of w + parens ws

-- no words that mean the tree have fewer parentheses than those of the text
abbrev pub HasFewestParens : Rows → List ℕ → Tree → Type 0
HasFewestParens c text t =
    (words other : List Word) → Spells c strict text words → Derives c strict other t →
    parens words ≤ parens other
