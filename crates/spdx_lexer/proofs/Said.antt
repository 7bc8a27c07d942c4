-- What a reading without a fault says.
use Rattle.std.proofs.Common.{◌≡◌, List, [], ◌∷◌, map, Result, Ok, refl, ap}
use Rattle.spdx_lexer.specs.Words.{Word, Fault, Item, Placed, words}
use Rattle.spdx_lexer.specs.Reading.{said}

-- the words, places aside
pub said_words : (read : List Placed) → map said (map {B = Item} Ok read) ≡ map {B = Result Word Fault} Ok (words read)
said_words [] = refl
said_words (p ∷ read) = ap (λ (xs : List (Result Word Fault)). Ok p.0 ∷ xs) (said_words read)
