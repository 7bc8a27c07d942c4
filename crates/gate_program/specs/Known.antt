-- Refusals that were there before.
use Rattle.std.specs.Prelude.{◌≡◌, Bool, true, ◌&&◌, List, ◌++◌, bytes_eq, map, All}
use Rattle.std.specs.List.{list_any}
use Rattle.gate_program.specs.declared.known.Refusal.{Refusal}

-- the same name, and the same license
abbrev pub is_same : Refusal → Refusal → Bool
is_same b r = bytes_eq b.name.now r.name.now && bytes_eq b.license.now r.license.now

abbrev pub is_known : List Refusal → Refusal → Bool
is_known before r = list_any (λ b. is_same b r) before

-- each of these was there before
abbrev pub IsEnough : List Refusal → List Refusal → Type 0
IsEnough before now = All (λ known. known ≡ true) (map (is_known before) now)

-- what is known stays known, where more was there before
abbrev pub Grows : List Refusal → Type 0
Grows before =
    (more : List Refusal) (r : Refusal) → is_known before r ≡ true →
    is_known (before ++ more) r ≡ true
