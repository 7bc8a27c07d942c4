-- A run whose status is 0.
use Rattle.std.proofs.Common.{◌≡◌, ◌∙◌, inl, inr, refl, sym, ap, subst, ℕ, ◌<◌, ◌||◌, ◌==◌, Bool, true, false, List, [], ◌∷◌, ◌++◌, Option, None, Some, arith}
use Rattle.std.specs.Prelude.{All, String, string_bytes, if◌then◌else◌}
use Rattle.std.specs.declared.alloc.Global.{Global}
use Rattle.std.specs.List.{AllZip, list_any}
use Rattle.std.proofs.lemmas.List.Elements.{All-nil, All-cons}
use Rattle.std.proofs.lemmas.List.Folds.{list_any-append}
use Rattle.shelves.specs.Shelf.{Shelved}
use Rattle.spdx_requirement.specs.Rows.{Rows}
use Rattle.source_trees.specs.declared.reading.Reading.{Reading}
use Rattle.source_trees.specs.declared.reading.Reading.TheVariants as reading
use Rattle.source_trees.specs.declared.reading.Taken.{Taken}
use Rattle.source_trees.specs.declared.reading.Wanted.{Wanted}
use Rattle.source_trees.specs.declared.walk.Seen.{Seen}
use Rattle.source_trees.specs.declared.walk.Seen.TheVariants as seen
use Rattle.file_fixes.specs.Fixing.{bytes_after}
use Rattle.fix_program.specs.declared.ends.FileEnd.{FileEnd}
use Rattle.fix_program.specs.declared.ends.FileEnd.TheVariants as end
use Rattle.file_fixes.specs.declared.mended.Parts.{Parts}
use Rattle.fix_program.specs.declared.run.PathEnd.{PathEnd}
use Rattle.fix_program.specs.declared.run.Run.{Run}
use Rattle.fix_program.specs.declared.trouble.FixTrouble.TheVariants as trouble
use Rattle.fix_program.specs.Ends.{IsFileEnd}
use Rattle.fix_program.specs.Files.{read_as}
use Rattle.fix_program.specs.Passing.{IsAccepted, IsAcceptedAs, IsAcceptedIf, IsPathAccepted, IsSeenAccepted, IsTreeAccepted}
use Rattle.fix_program.specs.Runs.{AreFileEnds, ArePathEnds, AreReadEnds, IsPathEnd, has_left, is_left_out, leaves_out, leaves_some, status_of}
use Rattle.fix_program.specs.Trees as tree
use Rattle.fix_program.specs.Trees.{AreEnds, AreEndsOf, AreEndsOfFile, AreTreeEnds, AreUnnamed, as_file, parts_below}
use Rattle.file_fixes.proofs.Accepted.{accepted}

neither : (a b : Bool) → (a || b) ≡ false → (a ≡ false) × (b ≡ false)
neither true b e = absurd cc
neither false b e = (refl, e)

-- none of these is left out, and in none an expression is left that is refused
abbrev AreWhole : List FileEnd → Type 0
AreWhole ends = (list_any is_left_out ends ≡ false) × (list_any has_left ends ≡ false)

first_whole : (e : FileEnd) (ends : List FileEnd) → AreWhole (e ∷ ends) → (is_left_out e ≡ false) × (has_left e ≡ false)
first_whole e ends h = ((neither (is_left_out e) (list_any is_left_out ends) h.0).0, (neither (has_left e) (list_any has_left ends) h.1).0)

cut : (own ends : List FileEnd) → AreWhole (own ++ ends) → AreWhole own × AreWhole ends
cut own ends h =
    let out = neither (list_any is_left_out own) (list_any is_left_out ends) (sym (list_any-append is_left_out own ends) ∙ h.0) in
    let left = neither (list_any has_left own) (list_any has_left ends) (sym (list_any-append has_left own ends) ∙ h.1) in
    ((out.0, left.0), (out.1, left.1))

module _ (s : Shelved) (c : Rows) (w : Bool) where
  end_accepted : (p : Parts) (path : List ℕ) (e : FileEnd) → IsFileEnd s c w p path e → is_left_out e ≡ false → has_left e ≡ false → IsAccepted s c w p path
  end_accepted p path (end.Fixed f) h out left = record {
    bytes = h.bytes;
    new = bytes_after h.bytes h.outcome.bytes;
    reads = h.reads;
    accepts = accepted c p (read_as w path) h.bytes h.outcome h.mends (sym h.left_is ∙ left);
  }
  end_accepted p path (end.LeftOut t) h out left = absurd cc
  end_accepted p path (end.LeftBehind n) h out left = absurd h

  file_accepted : (p : Parts) (path : List ℕ) (ends : List FileEnd) → AreFileEnds s c w p path ends → AreWhole ends → IsAccepted s c w p path
  file_accepted p path ends h whole = let first = first_whole h.0 [] (subst AreWhole h.2 whole) in end_accepted p path h.0 h.1 first.0 first.1

  -- ---- below a folder

  if_accepted : (p : Option Parts) (path : List ℕ) (ends : List FileEnd) → AreEndsOfFile s c w p path ends → AreWhole ends → IsAcceptedIf s c w p path
  if_accepted None path ends h whole = tt
  if_accepted (Some p) path ends h whole = file_accepted p (as_file path) ends h whole

  left_out_not : (e : FileEnd) (ends : List FileEnd) → is_left_out e ≡ true → ends ≡ e ∷ [] → AreWhole ends → ⊥
  left_out_not e ends is same whole = let first = first_whole e [] (subst AreWhole same whole) in absurd cc

  named : (t : Taken) (n : String Global) (unnamed : ℕ) (ends : List FileEnd) (none : Bool) → (unnamed == 0) ≡ none → AreUnnamed n unnamed ends → AreWhole ends → unnamed ≡ 0
  named t n unnamed ends true e h whole = grind (arith, e)
  named t n unnamed ends false e h whole =
      let left : FileEnd = end.LeftOut (trouble.Unnamed n unnamed) in
      absurd (left_out_not left ends refl (h ∙ ap (λ (b : Bool). if b then [] else left ∷ []) e) whole)

  seen_accepted : (t : Taken) (x : Seen) (own : List FileEnd) → AreEndsOf s c w t x own → AreWhole own → IsSeenAccepted s c w t x
  seen_accepted t (seen.File n) own h whole = if_accepted (parts_below t (string_bytes n)) (string_bytes n) own h whole
  seen_accepted t (seen.Folder n unnamed) own h whole = named t n unnamed own (unnamed == 0) refl h whole
  seen_accepted t (seen.LeftOut n) own h whole = tt
  seen_accepted t (seen.LeftBehind n) own h whole = tt
  seen_accepted t (seen.Unread n e) own h whole = left_out_not _ own refl h.0 whole

  all_accepted : (t : Taken) {all : List Seen} {ends : List FileEnd} → AreEnds s c w t all ends → AreWhole ends → All (IsSeenAccepted s c w t) all
  all_accepted t tree.none whole = All-nil (IsSeenAccepted s c w t)
  all_accepted t (tree.next {all = all} {ends = ends} x own h rest) whole =
      let parted = cut own ends whole in
      All-cons (IsSeenAccepted s c w t) x all (seen_accepted t x own h parted.0) (all_accepted t rest parted.1)

  tree_accepted : (t : Taken) (path : List ℕ) (ends : List FileEnd) → AreTreeEnds s c w t path ends → AreWhole ends → IsTreeAccepted s c w t path
  tree_accepted t path ends (inl h) whole = (h.2.0, (h.0, h.1, h.2.1), all_accepted t h.2.2 whole)
  tree_accepted t path ends (inr h) whole = absurd (left_out_not _ ends refl h.2.2 whole)

  -- ---- paths

  as_accepted : (r : Reading) (path : List ℕ) (ends : List FileEnd) → AreReadEnds s c w r path ends → AreWhole ends → IsAcceptedAs s c w r path
  as_accepted reading.Lines path ends h whole = file_accepted _ path ends h whole
  as_accepted reading.Tags path ends h whole = file_accepted _ path ends h whole
  as_accepted (reading.Manifest form) path ends h whole = file_accepted _ path ends h whole
  as_accepted (reading.Tree t) path ends h whole = tree_accepted t path ends h whole

  path_accepted : (wanted : Wanted) (path : List ℕ) (ends : List FileEnd) → ArePathEnds s c w wanted path ends → AreWhole ends → IsPathAccepted s c w wanted path
  path_accepted wanted path ends (inl h) whole = (h.0, h.1, as_accepted h.0 path ends h.2 whole)
  path_accepted wanted path ends (inr h) whole = absurd (left_out_not _ ends refl h.2.0 whole)

  paths_accepted : (wanted : Wanted) (paths : List (List ℕ)) (ends : List PathEnd) → AllZip (IsPathEnd s c w wanted) paths ends → list_any leaves_out ends ≡ false → list_any leaves_some ends ≡ false → All (IsPathAccepted s c w wanted) paths
  paths_accepted wanted [] ends h out left = All-nil (IsPathAccepted s c w wanted)
  paths_accepted wanted (path ∷ paths) [] h out left = absurd h
  paths_accepted wanted (path ∷ paths) (e ∷ ends) h out left =
      let outs = neither (leaves_out e) (list_any leaves_out ends) out in
      let lefts = neither (leaves_some e) (list_any leaves_some ends) left in
      All-cons (IsPathAccepted s c w wanted) path paths (path_accepted wanted path e.ends.items h.0 (outs.0, lefts.0)) (paths_accepted wanted paths ends h.1 outs.1 lefts.1)

  both_false : (u m : Bool) → (if u then 2 else (if m then 1 else 0)) < 1 → (u ≡ false) × (m ≡ false)
  both_false true m h = absurd (omega (arith, h))
  both_false false true h = absurd (omega (arith, h))
  both_false false false h = (refl, refl)

  pub each_accepted : (wanted : Wanted) (paths : List (List ℕ)) (run : Run) → AllZip (IsPathEnd s c w wanted) paths run.paths.items → status_of run < 1 → All (IsPathAccepted s c w wanted) paths
  each_accepted wanted paths run h low =
      let none = both_false (list_any leaves_out run.paths.items) (list_any leaves_some run.paths.items) low in
      paths_accepted wanted paths run.paths.items h none.0 none.1
