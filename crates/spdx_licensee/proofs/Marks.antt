-- Parts of how versions are parted and compared.
use Rattle.std.specs.Prelude.{ℕ, Bool, ◌==◌, ◌||◌, List, length, max}
use Rattle.std.specs.Char.{is_ascii_digit}
use Rattle.std.specs.Ordering.{nat_cmp, is_lt}
use Rattle.std.specs.Cmp.Lexicographic.{slice_cmp}
use Rattle.spdx_licensee.specs.Version.{padded}

abbrev pub is_hyphen : ℕ → Bool
is_hyphen b = b == 45

abbrev pub is_dot : ℕ → Bool
is_dot b = b == 46

abbrev pub is_version_byte : ℕ → Bool
is_version_byte b = is_ascii_digit b || is_dot b

-- with both lists padded by zeros to one length, the first is less at the first place where they differ
abbrev pub is_less : List ℕ → List ℕ → Bool
is_less xs ys = let len = max (length xs) (length ys) in is_lt (slice_cmp nat_cmp (padded len xs) (padded len ys))
