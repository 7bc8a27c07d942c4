-- Rows by a key of their names.
use Rattle.std.specs.Prelude.{◌≡◌, ℕ, ◌+◌, ◌-◌, ◌*◌, ◌/◌, ◌%◌, ◌<◌, ◌≤◌, ◌^◌, Bool, true, List, [], ◌∷◌, length, take, get_or, Option, Some, None, bytes_eq, nat_lt, if◌then◌else◌}
use Rattle.std.specs.List.{fold, Contains}
use Rattle.std.specs.List.Sorted.{IsNonDecreasing}
use Rattle.std.specs.Int.{w64, from_le_bytes}
use Rattle.std.specs.Int.Bits.{bit_or}
use Rattle.std.specs.Str.{str_eq_ignore_ascii_case}
use Rattle.spdx_catalogue.specs.Names.{begins_caseless}
use Rattle.spdx_catalogue.specs.declared.index.Sought.{Sought}
use Rattle.spdx_catalogue.specs.declared.index.Sought.TheVariants.{Named, Alike, Front}

-- a byte in which the bit is set that tells small letters from capitals
abbrev pub set_case : ℕ → ℕ
set_case b = bit_or b 32

-- a sum with one more byte
abbrev pub mixed : ℕ → ℕ → ℕ
mixed sum b = ((sum * 9) % 2 ^ 64 + set_case b) % 2 ^ 64

-- the byte at that place, in which that bit is set
abbrev pub set_at : List ℕ → ℕ → ℕ
set_at bytes at = set_case (get_or bytes at 0)

-- eight bytes from that place on as one number
abbrev pub eight_at : List ℕ → ℕ → ℕ
eight_at bytes at = from_le_bytes w64 (
    set_at bytes at ∷ set_at bytes (at + 1) ∷ set_at bytes (at + 2) ∷ set_at bytes (at + 3)
    ∷ set_at bytes (at + 4) ∷ set_at bytes (at + 5) ∷ set_at bytes (at + 6) ∷ set_at bytes (at + 7)
    ∷ [])

-- the first and the last eight bytes, and how many bytes there are
abbrev pub sum_of_ends : List ℕ → ℕ
sum_of_ends bytes =
    (((eight_at bytes 0 * 9) % 2 ^ 64 + eight_at bytes (length bytes - 8)) % 2 ^ 64 + length bytes)
    % 2 ^ 64

-- a sum of some bytes, in which the case of ASCII letters does not count
abbrev pub sum_of : List ℕ → ℕ
sum_of bytes = if nat_lt (length bytes) 8 then fold mixed 0 bytes else sum_of_ends bytes

-- the key of some bytes: the product spreads their sum over all bits, of which the upper half
-- counts
abbrev pub key_of : List ℕ → ℕ
key_of bytes = (sum_of bytes * 11400714819323198485) % 2 ^ 64 / 2 ^ 32

-- the bytes that make a prefix's key: so many of the prefix, which a short one lacks
abbrev pub whole_front : List ℕ → Option (List ℕ)
whole_front prefix = if nat_lt (length prefix) 3 then None else Some (take 3 prefix)

-- a key and a place in one number, in whose order rows with one key stand together
abbrev pub code : ℕ → ℕ → ℕ
code key place = key * 4294967296 + place

-- the code of each row is among the codes, which rise
pub record IsIndexOf {A : Type 0} (keyed : A → Option (List ℕ)) (rows : List A)
    (codes : List ℕ) : Type 0 where
  pub few : length rows ≤ 4294967296
  pub rise : IsNonDecreasing codes
  pub holds : (k : ℕ) (d : A) → k < length rows →
      (bytes : List ℕ) × (keyed (get_or rows k d) ≡ Some bytes) ×
      Contains codes (code (key_of bytes) k)

-- whether a row of that text is looked for
abbrev pub fits : Sought → List ℕ → Bool
fits (Named name) text = bytes_eq text name.now
fits (Alike name) text = str_eq_ignore_ascii_case text name.now
fits (Front begun) text = begins_caseless text begun.now

-- the key of what is looked for
abbrev pub sought_key : Sought → ℕ
sought_key (Named name) = key_of name.now
sought_key (Alike name) = key_of name.now
sought_key (Front begun) = key_of (take 3 begun.now)

-- each row that fits has that key
abbrev pub IsRelevant : {A : Type 0} → (A → Option (List ℕ)) → (A → List ℕ) → Sought → Type 0
IsRelevant {A} keyed text sought =
    (r : A) (bytes : List ℕ) → fits sought (text r) ≡ true → keyed r ≡ Some bytes →
    key_of bytes ≡ sought_key sought
