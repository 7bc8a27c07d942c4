-- Why a variable isn't told.
use Rattle.std.specs.Prelude.{ℕ, List}
use Rattle.shelves.specs.declared.shelf.VariableFault.{VariableFault}
use Rattle.shelves.specs.declared.shelf.VariableFault.TheVariants as fault
use Rattle.shelves.specs.Shelf.{Shelved}

-- it is no UTF-8; nothing is said of memory
abbrev pub IsUntold : Shelved → List ℕ → VariableFault → Type 0
IsUntold s name fault.NotUtf8 = s.IsNoText name
IsUntold s name fault.Memory = Unit {0}
