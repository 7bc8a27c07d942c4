-- What `diff` writes.
use Rattle.std.proofs.Common.{◌≡◌, ◌∙◌, ℕ, ◌<◌, Bool, List, [], ◌∷◌, ◌++◌, ap, append-nil, arith, map, refl, subst}
use Rattle.std.specs.declared.alloc.Global.{Global}
use Rattle.std.specs.Prelude.{Option, None, Some, String}
use Rattle.changes_program.proofs.Passing.{both_listed, the_files}
use Rattle.changes_program.specs.Run.{IsRun, IsToldOfBoth, status_by, status_of}
use Rattle.changes_program.specs.declared.run.Run.{Run}
use Rattle.changes_program.specs.declared.run.ToldChanges.{ToldChanges}
use Rattle.check_files.specs.Told.{Hears, Tells, each}
use Rattle.list_program.specs.Named.{InsideBytes}
use Rattle.package_files.specs.All.{AreListed}
use Rattle.package_files.specs.declared.listed.Listed.{Listed}
use Rattle.shelves.specs.Shelf.{Shelved}
use Rattle.changes_program.specs.declared.run.Request.{Request}
use Rattle.package_commands.specs.Changes.{AreBothRead, IsDiffTold, IsToldSaid}
use Rattle.package_commands.specs.Forms.{AreFormsTold}
use Rattle.package_commands.proofs.Ends.{before_told, told_all}
use Rattle.spdx_commands.specs.Said.{text_of, told_of}
use Rattle.spdx_commands.specs.declared.said.Said.{Said}
use Rattle.spdx_troubles.specs.Causes.{file_trouble}
use Rattle.spdx_troubles.specs.declared.trouble.Trouble.{Trouble}

-- ---- what is told of the changes

pub diff_told : (wanted : Bool) (run : Run) (mid last : List Trouble) (s : Said) (totals : Option (String Global)) → Hears (each []) (each mid) (map file_trouble run.left_out.items)
    → Tells (each mid) (each last) (AreFormsTold run.files.items) → IsToldSaid last wanted run.told s totals → IsDiffTold wanted run (text_of s) (told_of s) totals
diff_told wanted run mid last s totals first forms is =
    let (read, are, same) = before_told (map file_trouble run.left_out.items) mid last (AreFormsTold run.files.items) first forms in
    record {
      forms = read;
      text_is = is.text_is;
      forms_are = are;
      told_are = told_all (map file_trouble run.left_out.items) read last [] s same is.before_is is.after_is ∙ ap (λ (l : List Trouble). map file_trouble run.left_out.items ++ l) (append-nil read);
      totals_are = is.totals_are;
    }

-- ---- both files

told_below : (o : Option ToldChanges) → status_by o < 2 → (t : ToldChanges) × (o ≡ Some t)
told_below None lt = absurd (omega (arith, lt))
told_below (Some t) lt = (t, refl)

pub both_read : (s : Shelved) (inside : InsideBytes) (replacements : List ℕ) (a : Request) (run : Run) → IsRun s inside replacements a run → status_of run < 2 → AreBothRead s a
both_read s inside replacements a run is lt =
    let told = told_below run.told lt in
    let both = the_files is.catalogue is.policy a.format run.files.items told.0 (subst (λ (o : Option ToldChanges). IsToldOfBoth is.catalogue is.policy a.format run.files.items o) told.1 is.runs.tells) in
    let each = both_listed s a.wanted a.old.now a.new.now both.0 both.1 run.left_out.items
    (subst (λ (files : List Listed). AreListed s a.wanted (a.old.now ∷ a.new.now ∷ []) files run.left_out.items) both.2 is.runs.reads) in
    record { older = both.0; newer = both.1; older_is = each.0; newer_is = each.1 }
