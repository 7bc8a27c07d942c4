-- What comes of a file.
use Rattle.std.specs.Prelude.{◌≡◌, ℕ, Bool, false, List}
use Rattle.shelves.specs.Shelf.{Shelved}
use Rattle.spdx_requirement.specs.Rows.{Rows}
use Rattle.fix_program.specs.declared.ends.FileEnd.{FileEnd}
use Rattle.fix_program.specs.declared.ends.FileEnd.TheVariants as end
use Rattle.file_fixes.specs.declared.mended.Parts.{Parts}
use Rattle.fix_program.specs.declared.trouble.FixTrouble.{FixTrouble}
use Rattle.fix_program.specs.Files.{IsFixedAt, IsNotFixed}
use Rattle.fix_program.specs.Troubles.{is_of_memory}

-- the trouble ends the file, and not for want of memory
abbrev pub IsLeftOut : FixTrouble → FileEnd → Type 0
IsLeftOut t e = (e ≡ end.LeftOut t) × (is_of_memory t ≡ false)

-- the file at the path is mended, or left out for what is wrong with it
abbrev pub IsFileEnd : Shelved → Rows → Bool → Parts → List ℕ → FileEnd → Type 0
IsFileEnd s c w p path (end.Fixed f) = IsFixedAt s c w p path f
IsFileEnd s c w p path (end.LeftOut t) = IsNotFixed s c w p path t × (is_of_memory t ≡ false)
IsFileEnd s c w p path (end.LeftBehind n) = ⊥
