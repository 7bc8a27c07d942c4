-- What a walk over borrowed imprecise names finds.
use Rattle.std.proofs.Common.{◌≡◌, ℕ, List, [], ◌∷◌, map, refl, ap, string_bytes}
use Rattle.std.specs.Prelude.{◌||◌, bytes_eq}
use Rattle.std.specs.Borrow.{Bor}
use Rattle.std.specs.List.{list_any}
use Rattle.spdx_requirement.specs.Rows.{ImpreciseRow, imprecise_of}
use Rattle.spdx_requirement.specs.declared.row.ImpreciseName.{ImpreciseName}
use Rattle.spdx_hints.specs.Borrowed.{nows}

pub any_spelled : (name : List ℕ) (found : List (Bor ImpreciseName)) → list_any (λ (b : Bor ImpreciseName). bytes_eq (string_bytes b.now.name) name) found ≡ list_any (λ (m : ImpreciseRow). bytes_eq m.name name) (map imprecise_of (nows found))
any_spelled name [] = refl
any_spelled name (x ∷ xs) = ap (λ b. bytes_eq (string_bytes x.now.name) name || b) (any_spelled name xs)
