-- What a licence's name may be, and the names that texts may write for it.
use Rattle.std.specs.Prelude.{ℕ, Bool, true, false, not, ◌||◌, ◌&&◌, ◌==◌, List, [], ◌∷◌, length, take, Option, Some, None, if◌then◌else◌, codes, bytes_eq}
use Rattle.std.specs.Option.{option_map_or}
use Rattle.std.specs.List.{list_all}
use Rattle.std.specs.Char.{is_ascii_alphanumeric}
use Rattle.std.specs.Str.{str_eq_ignore_ascii_case}
use Rattle.std.specs.Ordering.{nat_cmp, is_lt}
use Rattle.std.specs.Cmp.Lexicographic.{slice_cmp}
use Rattle.spdx_requirement.specs.Endings.{only, or_later, has_suffix, without}

-- ASCII letters, digits, `-` and `.`
abbrev pub is_name_byte : ℕ → Bool
is_name_byte b = is_ascii_alphanumeric b || (b == 45 || b == 46)

-- a name is not empty, and has such bytes alone
abbrev pub is_name : List ℕ → Bool
is_name name = not (length name == 0) && list_all is_name_byte name

-- an operator is all capitals or all small
abbrev pub is_operator : List ℕ → Bool
is_operator name =
    bytes_eq name (codes "AND") ||
    (bytes_eq name (codes "and") ||
    (bytes_eq name (codes "OR") ||
    (bytes_eq name (codes "or") || (bytes_eq name (codes "WITH") || bytes_eq name (codes "with")))))

-- greater by bytes than the name before, if there is one
abbrev pub is_above : Option (List ℕ) → List ℕ → Bool
is_above None name = true
is_above (Some before) name = is_lt (slice_cmp nat_cmp before name)

-- it has an ending, and so has what stands before that
abbrev pub has_two_suffixes : List ℕ → Bool
has_two_suffixes name =
    option_map_or has_suffix (without only name) false ||
    option_map_or has_suffix (without or_later name) false

abbrev pub is_plus : ℕ → Bool
is_plus b = b == 43

-- every `+` at the end taken off
abbrev pub without_plus : List ℕ → List ℕ
without_plus [] = []
without_plus (b ∷ bs) = if list_all is_plus (b ∷ bs) then [] else b ∷ without_plus bs

-- whether the text begins with the prefix, the case of ASCII letters aside
abbrev pub begins_caseless : List ℕ → List ℕ → Bool
begins_caseless prefix text = str_eq_ignore_ascii_case prefix (take (length prefix) text)
