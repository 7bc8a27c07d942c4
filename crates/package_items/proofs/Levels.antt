-- What an item gives with its parts, by how many levels are left.
use Rattle.std.proofs.Common.{◌≡◌, ℕ, zero, suc, ◌<◌, ◌-◌, List, ◌∷◌, Result, Ok, Err, refl, ap, arith}
use Rattle.package_items.specs.Rows.{Fault, ItemRow}
use Rattle.package_items.specs.Members.{on_ok}
use Rattle.package_items.specs.Items.{all_of}
use Rattle.package_items.specs.Nested.{PartsRow, parts_of, too_deep, with_parts}

-- an item, and behind it its parts with their own through so many levels
abbrev opened : PartsRow → ℕ → ItemRow → Result (List ItemRow) Fault
opened p n i = on_ok (parts_of p i) (λ inner. on_ok (all_of (λ x. with_parts p n x) inner) (λ more. Ok (i ∷ more)))

pub with_parts_below : (p : PartsRow) (n : ℕ) (i : ItemRow) → n ≡ 0 → with_parts p n i ≡ Err (too_deep i)
unfolding with_parts
with_parts_below p zero i none = refl
with_parts_below p (suc n) i none = absurd (omega (arith, none))

pub with_parts_above : (p : PartsRow) (n : ℕ) (i : ItemRow) → 0 < n
    → with_parts p n i ≡ on_ok (parts_of p i) (λ inner. on_ok (all_of (λ x. with_parts p (n - 1) x) inner) (λ more. Ok (i ∷ more)))
unfolding with_parts
with_parts_above p zero i some = absurd (omega (arith, some))
with_parts_above p (suc n) i some =
    let same : n ≡ suc n - 1 = omega arith in
    ap (λ (k : ℕ). opened p k i) same
