-- A file all of whose expressions are accepted isn't written.
use Rattle.std.proofs.Common.{◌≡◌, ◌∙◌, refl, ap, ℕ, Bool, true, false, List, Option, None, Some}
use Rattle.std.specs.Global.{Vec}
use Rattle.shelves.specs.Shelf.{Shelved}
use Rattle.spdx_requirement.specs.Rows.{Rows}
use Rattle.file_fixes.specs.declared.mended.Parts.{Parts}
use Rattle.file_fixes.proofs.Accepted.{stays}
use Rattle.fix_program.specs.declared.file.Deed.{Deed}
use Rattle.fix_program.specs.declared.file.Deed.TheVariants as deed
use Rattle.fix_program.specs.declared.file.Fixed.{Fixed}
use Rattle.shelves.specs.AtPath.{is_input}
use Rattle.fix_program.specs.Files.{AreAllRead, IsDeedBy, IsFixedAt, IsUntouched, is_replaced, read_as}

not_replaced : (w input : Bool) (p : Parts) (path old : List ℕ) (new : Option (Vec ℕ)) (d : Deed) → new ≡ None → IsDeedBy w input p path old new d → is_replaced d ≡ false
not_replaced false input p path old None d none h = ap is_replaced h
not_replaced true false p path old None d none h = ap is_replaced h
not_replaced true true p path old None (deed.Put t) none h = refl
not_replaced true true p path old None deed.Nothing none h = refl
not_replaced true true p path old None (deed.Replace r) none h = absurd h
not_replaced w input p path old (Some v) d none h = absurd cc

pub untouched : (s : Shelved) (c : Rows) (w : Bool) (p : Parts) (path : List ℕ) (f : Fixed) → IsFixedAt s c w p path f → AreAllRead s c w p path → IsUntouched f
untouched s c w p path f h reads =
    let still = stays c p (read_as w path) h.bytes h.outcome h.mends (reads h.bytes h.reads) in
    (not_replaced w (is_input path) p path h.bytes h.outcome.bytes f.deed still.0 h.does, h.left_is ∙ still.1)
