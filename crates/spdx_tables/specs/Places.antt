-- Rows whose indices are their places.
use Rattle.std.specs.Prelude.{ℕ, suc, List, [], ◌∷◌}
use Rattle.spdx_requirement.specs.Rows.{Rows, LicenseRow, ExceptionRow, ImpreciseRow}

-- the licence at that place of its list
abbrev pub license_at : ℕ → LicenseRow → LicenseRow
license_at index r = record r { index = index }

-- the exception at that place of its list
abbrev pub exception_at : ℕ → ExceptionRow → ExceptionRow
exception_at index r = record r { index = index }

-- an imprecise name has no index
abbrev pub imprecise_at : ℕ → ImpreciseRow → ImpreciseRow
imprecise_at index r = r

-- each row with its place, counted from the given one, as its index
abbrev pub numbered : {A : Type 0} → (ℕ → A → A) → ℕ → List A → List A
numbered place index [] = []
numbered place index (r ∷ rs) = place index r ∷ numbered place (suc index) rs

-- the same rows, each with its place as its index
abbrev pub renumbered : Rows → Rows
renumbered c =
    record {
      version = c.version;
      licenses = numbered license_at 0 c.licenses;
      exceptions = numbered exception_at 0 c.exceptions;
      imprecise = c.imprecise;
    }
