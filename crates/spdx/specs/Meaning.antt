-- An expression that was read from a text.
use Rattle.spdx_lexer.specs.Words.{Placed, words}
use Rattle.std.specs.Prelude.{◌≡◌, ℕ, List, Ok, map}
use Rattle.spdx_requirement.specs.Rows.{Rows}
use Rattle.spdx_requirement.specs.Items.{Requirement}
use Rattle.spdx_requirement.specs.Texts.{requirement_text}
use Rattle.spdx_lexer.specs.declared.token.ParseMode.{ParseMode}
use Rattle.spdx_lexer.specs.Reading.{reading}
use Rattle.spdx_parser.specs.Tree.{Leaf}
use Rattle.spdx_parser.specs.Grammar.{IsTheTree}
use Rattle.spdx_parser.specs.Last.{Due}
use Rattle.spdx_parser.specs.Spans.{license_spans}
use Rattle.spdx_parser.specs.Meaning.{IsOfRows}
use Rattle.spdx_canonical.specs.NormalLaw.{ReadsAs}
use Rattle.spdx.specs.Value.{Written}

-- The text reads without a fault, the grammar derives the expression's tree from its words, and no
-- other; the requirements have the places of the licences' words, and every id in the tree has a
-- row of the catalogue.
pub record IsReadFrom (c : Rows) (m : ParseMode) (text : List ℕ) (e : Written) : Type 0 where
  pub read : List Placed
  pub reads : reading c m 0 text ≡ map Ok read
  pub meant : IsTheTree c m (words read) e.tree
  pub spans_are : e.spans ≡ license_spans Due read
  pub rows_are : IsOfRows c e.tree
  pub text_is : e.text ≡ text

-- the printed text of the requirement is read strictly as that requirement alone
abbrev pub ReadsBack : Rows → Requirement → Type 0
ReadsBack c r = ReadsAs c (requirement_text r) (Leaf r)
