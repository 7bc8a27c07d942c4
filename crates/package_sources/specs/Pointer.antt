-- Which texts are JSON pointers (RFC 6901).
use Rattle.std.specs.Prelude.{ℕ, Bool, true, not, ◌&&◌, ◌||◌, ◌==◌, nat_eq, List, [], ◌∷◌, length, Result, Ok, Err, if◌then◌else◌, codes}
use Rattle.std.specs.List.{starts_with}
use Rattle.package_items.specs.Rows.{Fault, not_pointer}

-- what may stand behind a tilde
abbrev pub begins_escape : List ℕ → Bool
begins_escape bytes = starts_with nat_eq bytes (codes "0") || starts_with nat_eq bytes (codes "1")

-- behind each tilde stands a 0 or a 1
abbrev pub is_escaped : List ℕ → Bool
is_escaped [] = true
is_escaped (b ∷ bs) = (not (b == 126) || begins_escape bs) && is_escaped bs

-- nothing, or what begins with a slash
abbrev pub is_pointer : List ℕ → Bool
is_pointer text = (length text == 0) || (starts_with nat_eq text (codes "/") && is_escaped text)

unfoldable pub checked : List ℕ → Result (List ℕ) Fault
checked text = if is_pointer text then Ok text else Err (not_pointer text)
