-- The bytes of a text.
use Rattle.std.specs.Prelude.{◌≡◌, IsTrue, ℕ, Bool, true, false, ◌||◌, ◌==◌, List, [], ◌∷◌, length, drop, take_while, chars, encode_utf8_all, Option, Some, None, if◌then◌else◌, nat_eq}
use Rattle.std.specs.List.{starts_with, list_all}
use Rattle.std.specs.Char.{is_whitespace}
use Rattle.spdx_catalogue.specs.Names.{is_name_byte}

-- the bytes of a name, and `:`
abbrev pub is_run_byte : ℕ → Bool
is_run_byte b = is_name_byte b || b == 58

-- the longest front of a name's bytes
abbrev pub name_at : List ℕ → List ℕ
name_at text = take_while is_name_byte text

-- the longest front of a run's bytes
abbrev pub run_at : List ℕ → List ℕ
run_at text = take_while is_run_byte text

-- how many bytes of white space, in the sense of Unicode, the text begins with
abbrev pub white : List ℕ → ℕ
white text = length (encode_utf8_all (take_while is_whitespace (chars text)))

-- what follows the prefix, if the text begins with it
abbrev pub strip : List ℕ → List ℕ → Option (List ℕ)
strip prefix text =
    if starts_with nat_eq text prefix then Some (drop (length prefix) text) else None

abbrev pub begins_plus : List ℕ → Bool
begins_plus [] = false
begins_plus (b ∷ text) = b == 43

-- bytes of a run alone
abbrev pub IsRun : List ℕ → Type 0
IsRun run = list_all is_run_byte run ≡ true

-- 0, or the length of the run at the front of the text
abbrev pub IsRunLeft : ℕ → List ℕ → Type 0
IsRunLeft known text = IsTrue (known == 0 || known == length (run_at text))
