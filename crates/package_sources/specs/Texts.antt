-- Texts of licenses as the ecosystems write them.
use Rattle.std.specs.Prelude.{ℕ, ◌==◌, List, if◌then◌else◌, codes, chars, encode_utf8, flat_map}

-- Cargo's slash between licenses is read as `OR`
abbrev pub slash_as_or : ℕ → List ℕ
slash_as_or c = if c == 47 then codes " OR " else encode_utf8 c

abbrev pub slashes_as_or : List ℕ → List ℕ
slashes_as_or text = flat_map slash_as_or (chars text)
