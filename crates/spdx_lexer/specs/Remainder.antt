-- What a lexer has left.
use Rattle.std.specs.Prelude.{ℕ, ◌-◌, List, length}
use Rattle.spdx_lexer.specs.declared.lexer.Lexer.{Lexer}
use Rattle.spdx_lexer.specs.Words.{Item}
use Rattle.spdx_lexer.specs.Reading.{reading}

-- the reading of the rest, of which the places count in the whole text
abbrev pub items_left : Lexer → List Item
items_left s = reading s.catalogue.now s.mode (length s.text.now - length s.rest.now) s.rest.now

-- the text that was handed in
abbrev pub source_of : Lexer → List ℕ
source_of s = s.text.now
