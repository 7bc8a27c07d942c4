-- Lists whose keys ascend.
use Rattle.std.specs.Prelude.{◌≡◌, ℕ, suc, ◌<◌, List, length, get_or}
use Rattle.std.specs.Ordering.{nat_cmp}
use Rattle.std.specs.declared.cmp.Ordering.TheVariants.{Less}
use Rattle.std.specs.Cmp.Lexicographic.{slice_cmp}

-- each key is less, by bytes, than the next
unfoldable pub Ascends : {A : Type 0} → (A → List ℕ) → List A → Type 0
Ascends {A} key xs =
    (i : ℕ) (d : A) → suc i < length xs →
    slice_cmp nat_cmp (key (get_or xs i d)) (key (get_or xs (suc i) d)) ≡ Less
