-- The name of the rule that a reason says.
use Rattle.std.specs.Prelude.{ℕ, List, [], ◌∷◌, ◌==◌, if◌then◌else◌, chars, encode_utf8, flat_map}

-- a hyphen for a blank
abbrev pub rule_char : ℕ → List ℕ
rule_char c = if c == 32 then 45 ∷ [] else encode_utf8 c

abbrev pub rule_name : List ℕ → List ℕ
rule_name reason = flat_map rule_char (chars reason)
