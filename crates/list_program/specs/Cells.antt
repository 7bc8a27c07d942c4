-- What stands between tabs and form feeds.
use Rattle.std.specs.Prelude.{◌-◌, ◌==◌, ℕ, Bool, List, [], ◌∷◌, Option, Some, None, length, nat_lt, if◌then◌else◌}
use Rattle.std.specs.List.{after_first, before_first, position_or_len}

-- what stands before the first element that passes, and what behind it, if there is one
abbrev pub parted : (ℕ → Bool) → List ℕ → Option (List ℕ × List ℕ)
parted is_between bytes =
    if nat_lt (position_or_len is_between bytes) (length bytes)
    then Some (before_first is_between bytes, after_first is_between bytes) else None

abbrev pub at_tab : List ℕ → Option (List ℕ × List ℕ)
at_tab line = parted (λ b. b == 9) line

abbrev pub at_feed : List ℕ → Option (List ℕ × List ℕ)
at_feed text = parted (λ b. b == 12) text

-- flags: one byte, counted from `0`
abbrev pub flags_in : List ℕ → Option ℕ
flags_in (b ∷ []) = Some (b - 48)
flags_in bytes = None
