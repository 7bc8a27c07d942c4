-- A text is white space and words in turn, up to its end or its first fault.
use Rattle.std.specs.Prelude.{◌≡◌, ℕ, ◌+◌, ◌&&◌, ◌==◌, nat_lt, List, [], ◌∷◌, drop, map, Result, Ok, Err, if◌then◌else◌}
use Rattle.spdx_requirement.specs.Rows.{Rows}
use Rattle.spdx_lexer.specs.declared.token.ParseMode.{ParseMode}
use Rattle.spdx_lexer.specs.Words.{Word, Fault, SeparatedPlus, Item, span}
use Rattle.spdx_lexer.specs.Text.{white}
use Rattle.spdx_lexer.specs.Lexeme.{lexeme}

-- the item at the place, and those that `more` gives from the place behind it on; behind a fault
-- there is none
abbrev pub go_on : (ℕ → List Item) → ℕ → Result (Word × ℕ) (Fault × ℕ) → List Item
go_on more at (Ok found) = Ok (found.0, span at found.1) ∷ more (at + found.1)
go_on more at (Err fault) = Err (fault.0, span at fault.1) ∷ []

-- behind `gap` bytes of white space; a `+` there is a fault, which is that white space
abbrev pub behind : Rows → ParseMode → (ℕ → List Item) → ℕ → ℕ → List ℕ → List Item
behind c m more at gap [] = []
behind c m more at gap (b ∷ text) =
    if nat_lt 0 gap && b == 43 then Err (SeparatedPlus, span at gap) ∷ []
    else go_on more (at + gap) (lexeme c m (b ∷ text))

-- The items from the place `from` on, of a text that begins at the place `at`: the bytes in front
-- of `from` were read before, and from there on it is white space and an item, and then the items
-- from the place behind that.
abbrev pub items : Rows → ParseMode → ℕ → ℕ → List ℕ → List Item
items c m from at [] = []
items c m from at (b ∷ text) =
    if nat_lt at from then items c m from (at + 1) text
    else behind c m (λ next. items c m next (at + 1) text) at (white (b ∷ text))
    (drop (white (b ∷ text)) (b ∷ text))

-- all of them
unfoldable pub reading : Rows → ParseMode → ℕ → List ℕ → List Item
reading c m at text = items c m at at text

-- a word or a fault, wherever it stands
abbrev pub said : Item → Result Word Fault
said (Ok found) = Ok found.0
said (Err fault) = Err fault.0

-- a text that reads without a fault as these words
abbrev pub Spells : Rows → ParseMode → List ℕ → List Word → Type 0
Spells c m text ws = map said (reading c m 0 text) ≡ map Ok ws
