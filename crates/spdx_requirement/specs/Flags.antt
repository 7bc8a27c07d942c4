-- What the bits of a row's flags say.
use Rattle.std.specs.Prelude.{ℕ, Bool, not, ◌==◌, bit_and}

-- the bit is set
abbrev pub has_flag : ℕ → ℕ → Bool
has_flag bit flags = not (bit_and flags bit == 0)

abbrev pub is_fsf_free_libre : ℕ → Bool
is_fsf_free_libre flags = has_flag 1 flags

abbrev pub is_osi_approved : ℕ → Bool
is_osi_approved flags = has_flag 2 flags

-- bit 4: the licence or the exception is deprecated
abbrev pub is_deprecated : ℕ → Bool
is_deprecated flags = has_flag 4 flags

abbrev pub is_copyleft : ℕ → Bool
is_copyleft flags = has_flag 8 flags

-- bit 16: the licence is one of the GNU family
abbrev pub is_gnu : ℕ → Bool
is_gnu flags = has_flag 16 flags
