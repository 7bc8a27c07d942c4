-- Each file that a run mended.
use Rattle.std.proofs.Common.{◌≡◌, inl, inr, Bool, true, false, ◌==◌, ℕ, List, [], ◌∷◌, ◌++◌, Option, None, Some, map, string_bytes}
use Rattle.std.specs.Prelude.{All, String, if◌then◌else◌}
use Rattle.std.specs.declared.alloc.Global.{Global}
use Rattle.std.specs.List.{AllZip}
use Rattle.std.proofs.lemmas.List.Elements.{All-append, All-cons, All-nil, All-same}
use Rattle.shelves.specs.Shelf.{Shelved}
use Rattle.source_trees.specs.declared.reading.Reading.{Reading}
use Rattle.source_trees.specs.declared.reading.Reading.TheVariants as reading
use Rattle.source_trees.specs.declared.reading.Taken.{Taken}
use Rattle.source_trees.specs.declared.reading.Wanted.{Wanted}
use Rattle.source_trees.specs.declared.walk.Seen.{Seen}
use Rattle.source_trees.specs.declared.walk.Seen.TheVariants as seen
use Rattle.spdx_requirement.specs.Rows.{Rows}
use Rattle.list_program.specs.Named.{InsideBytes}
use Rattle.file_fixes.specs.declared.mended.Parts.{Parts}
use Rattle.fix_program.specs.declared.ends.FileEnd.{FileEnd}
use Rattle.fix_program.specs.declared.ends.FileEnd.TheVariants as end
use Rattle.fix_program.specs.declared.run.PathEnd.{PathEnd}
use Rattle.fix_program.specs.declared.run.Request.{Request}
use Rattle.fix_program.specs.declared.run.Run.{Run}
use Rattle.fix_program.specs.declared.trouble.FixTrouble.TheVariants as trouble
use Rattle.fix_program.specs.Ends.{IsFileEnd}
use Rattle.fix_program.specs.Files.{IsFixedAt}
use Rattle.fix_program.specs.Runs.{AreFileEnds, ArePathEnds, AreReadEnds, IsPathEnd, IsRun, path_in}
use Rattle.fix_program.specs.Trees as tree
use Rattle.fix_program.specs.Trees.{AreEnds, AreEndsOf, AreEndsOfFile, AreTreeEnds, AreUnnamed, as_file, parts_below}

-- a file that is mended is so at some path, by some of its parts
abbrev pub IsFixedSomewhere : Shelved → Rows → Bool → FileEnd → Type 0
IsFixedSomewhere s c w (end.Fixed f) = (p : Parts) × (path : List ℕ) × IsFixedAt s c w p path f
IsFixedSomewhere s c w e = Unit {0}

abbrev pub AreFixed : Shelved → Rows → Bool → PathEnd → Type 0
AreFixed s c w p = All (IsFixedSomewhere s c w) p.ends.items

module _ (s : Shelved) (c : Rows) (w : Bool) where
  alone : (e : FileEnd) (ends : List FileEnd) → IsFixedSomewhere s c w e → ends ≡ e ∷ [] → All (IsFixedSomewhere s c w) ends
  alone e ends h is = All-same (IsFixedSomewhere s c w) ends (e ∷ []) is (All-cons (IsFixedSomewhere s c w) e [] h (All-nil (IsFixedSomewhere s c w)))

  no_ends : (ends : List FileEnd) → ends ≡ [] → All (IsFixedSomewhere s c w) ends
  no_ends ends is = All-same (IsFixedSomewhere s c w) ends [] is (All-nil (IsFixedSomewhere s c w))

  of_end : (p : Parts) (path : List ℕ) (e : FileEnd) → IsFileEnd s c w p path e → IsFixedSomewhere s c w e
  of_end p path (end.Fixed f) h = (p, path, h)
  of_end p path (end.LeftOut t) h = tt
  of_end p path (end.LeftBehind n) h = tt

  of_file : (p : Parts) (path : List ℕ) (ends : List FileEnd) → AreFileEnds s c w p path ends → All (IsFixedSomewhere s c w) ends
  of_file p path ends h = alone h.0 ends (of_end p path h.0 h.1) h.2

  -- ---- below a folder

  if_file : (p : Option Parts) (path : List ℕ) (ends : List FileEnd) → AreEndsOfFile s c w p path ends → All (IsFixedSomewhere s c w) ends
  if_file None path ends h = no_ends ends h
  if_file (Some p) path ends h = of_file p (as_file path) ends h

  unnamed : (n : String Global) (count : ℕ) (none : Bool) (ends : List FileEnd) → ends ≡ (if none then [] else end.LeftOut (trouble.Unnamed n count) ∷ []) → All (IsFixedSomewhere s c w) ends
  unnamed n count true ends is = no_ends ends is
  unnamed n count false ends is = alone (end.LeftOut (trouble.Unnamed n count)) ends tt is

  of_seen : (t : Taken) (x : Seen) (own : List FileEnd) → AreEndsOf s c w t x own → All (IsFixedSomewhere s c w) own
  of_seen t (seen.File n) own h = if_file (parts_below t (string_bytes n)) (string_bytes n) own h
  of_seen t (seen.Folder n count) own h = unnamed n count (count == 0) own h
  of_seen t (seen.LeftOut n) own h = no_ends own h
  of_seen t (seen.LeftBehind n) own h = alone (end.LeftBehind n) own tt h
  of_seen t (seen.Unread n e) own h = alone (end.LeftOut (trouble.Unreadable n e)) own tt h.0

  of_all : (t : Taken) {all : List Seen} {ends : List FileEnd} → AreEnds s c w t all ends → All (IsFixedSomewhere s c w) ends
  of_all t tree.none = All-nil (IsFixedSomewhere s c w)
  of_all t (tree.next {all = all} {ends = ends} x own h rest) = All-append (IsFixedSomewhere s c w) own ends (of_seen t x own h) (of_all t rest)

  of_tree : (t : Taken) (path : List ℕ) (ends : List FileEnd) → AreTreeEnds s c w t path ends → All (IsFixedSomewhere s c w) ends
  of_tree t path ends (inl h) = of_all t h.2.2
  of_tree t path ends (inr h) = alone _ ends tt h.2.2

  -- ---- paths

  as_read : (r : Reading) (path : List ℕ) (ends : List FileEnd) → AreReadEnds s c w r path ends → All (IsFixedSomewhere s c w) ends
  as_read reading.Lines path ends h = of_file _ path ends h
  as_read reading.Tags path ends h = of_file _ path ends h
  as_read (reading.Manifest form) path ends h = of_file _ path ends h
  as_read (reading.Tree t) path ends h = of_tree t path ends h

  of_path : (wanted : Wanted) (path : List ℕ) (ends : List FileEnd) → ArePathEnds s c w wanted path ends → All (IsFixedSomewhere s c w) ends
  of_path wanted path ends (inl h) = as_read h.0 path ends h.2
  of_path wanted path ends (inr h) = alone _ ends tt h.2.0

  each : (wanted : Wanted) (paths : List (List ℕ)) (ends : List PathEnd) → AllZip (IsPathEnd s c w wanted) paths ends → All (AreFixed s c w) ends
  each wanted [] [] h = All-nil (AreFixed s c w)
  each wanted [] (e ∷ ends) h = absurd h
  each wanted (p ∷ paths) [] h = absurd h
  each wanted (p ∷ paths) (e ∷ ends) h = All-cons (AreFixed s c w) e ends (of_path wanted p e.ends.items h.0) (each wanted paths ends h.1)

pub each_fixed : (s : Shelved) (inside : InsideBytes) (a : Request) (run : Run) → IsRun s inside a run → All (AreFixed s run.catalogue a.is_written) run.paths.items
each_fixed s inside a run h = each s run.catalogue a.is_written a.wanted (map path_in a.paths.now) run.paths.items h.ends
