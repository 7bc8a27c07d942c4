-- By what a list differs from an older one.
use Rattle.std.specs.Prelude.{◌≡◌, ℕ, Bool, true, false, ◌&&◌, ◌==◌, List, [], ◌∷◌, Option, Some, None, map, filter, find, bytes_eq, if◌then◌else◌, Contains}
use Rattle.std.specs.Borrow.{Bor}
use Rattle.spdx_requirement.specs.Rows.{LicenseRow, ExceptionRow}

-- two licences of one name say the same, places aside
abbrev pub is_same_license : LicenseRow → LicenseRow → Bool
is_same_license a b = bytes_eq a.full_name b.full_name && a.flags == b.flags

-- the same of two exceptions
abbrev pub is_same_exception : ExceptionRow → ExceptionRow → Bool
is_same_exception a b = a.flags == b.flags

-- what references point to
abbrev pub nows : {A : Type 0} → List (Bor A) → List A
nows xs = map (λ x. x.now) xs

-- there is none
abbrev pub is_none : {A : Type 0} → Option A → Bool
is_none None = true
is_none (Some x) = false

module _ {A : Type 0} (name_of : A → List ℕ) where
  -- the first row of that name
  abbrev pub named : List A → List ℕ → Option A
  named rows name = find (λ r. bytes_eq (name_of r) name) rows

  -- the rows whose names the others have not
  abbrev pub only_here : List A → List A → List A
  only_here rows others = filter (λ r. is_none (named others (name_of r))) rows

-- an older row beside a newer one of its name, where they differ
abbrev pub change : {A : Type 0} → (A → A → Bool) → Option A → A → Option (A × A)
change is_same None new = None
change is_same (Some old) new = if is_same old new then None else Some (old, new)

-- one more, if there is one
abbrev pub with_change : {A : Type 0} → Option A → List A → List A
with_change None rest = rest
with_change (Some pair) rest = pair ∷ rest

module _ {A : Type 0} (name_of : A → List ℕ) (is_same : A → A → Bool) where
  -- all of these, in the order of the newer rows
  abbrev pub changes : List A → List A → List (A × A)
  changes olds [] = []
  changes olds (new ∷ news) =
      with_change (change is_same (named name_of olds (name_of new)) new) (changes olds news)

  -- a row is told as added exactly if only the newer rows have its name, as removed exactly if only
  -- the older ones have it, and as changed exactly if both have it and say something else
  pub record TellsEach (olds news added removed : List A) (changed : List (A × A)) : Type 0 where
    pub is_added : (r : A) →
        (Contains added r → Contains news r × (named name_of olds (name_of r) ≡ None))
        × (Contains news r → named name_of olds (name_of r) ≡ None → Contains added r)
    pub is_removed : (r : A) →
        (Contains removed r → Contains olds r × (named name_of news (name_of r) ≡ None))
        × (Contains olds r → named name_of news (name_of r) ≡ None → Contains removed r)
    pub is_changed : (old new : A) →
        (Contains changed (old, new) →
        Contains news new × (named name_of olds (name_of new) ≡ Some old) ×
        (is_same old new ≡ false))
        × (Contains news new → named name_of olds (name_of new) ≡ Some old →
        is_same old new ≡ false → Contains changed (old, new))
