-- What is to take a file's place is known by what the file was known by.
use Rattle.std.proofs.Common.{◌≡◌, ℕ, Bool, true, false, List, sym, subst}
use Rattle.shelves.specs.Shelf.{Shelved}
use Rattle.shelves.specs.declared.shelf.Stamp.{Stamp}
use Rattle.fix_program.specs.declared.file.Deed.{Deed}
use Rattle.fix_program.specs.declared.file.Deed.TheVariants as deed
use Rattle.fix_program.specs.Files.{IsKnown, IsStamped, IsStampedBy}

pub stamped : (input : Bool) (s : Shelved) (path bytes : List ℕ) (stamp : Stamp) (d : Deed) → IsKnown input s path bytes stamp → IsStampedBy input stamp d → IsStamped s path bytes d
stamped true s path bytes stamp (deed.Replace r) known h = absurd h
stamped false s path bytes stamp (deed.Replace r) known h = subst (λ x. s.HoldsAs path bytes x) (sym h) known
stamped input s path bytes stamp deed.Nothing known h = tt
stamped input s path bytes stamp (deed.Put text) known h = tt
