-- The parts of a run, put together.
use Rattle.std.proofs.Common.{◌≡◌, ◌≢◌, ℕ, true, false, arith, List, [], ◌∷◌, length, map, refl, sym, ap, ◌∙◌, subst}
use Rattle.std.specs.Borrow.{Bor}
use Rattle.std.specs.Global.{Vec}
use Rattle.std.specs.Option.{option_copied}
use Rattle.std.specs.Prelude.{Option, Some}
use Rattle.std.proofs.lemmas.Bool.{false≢true, true≢false}
use Rattle.shelves.specs.Shelf.{Shelved}
use Rattle.spdx_requirement.specs.Rows.{Rows}
use Rattle.spdx_policy.specs.Rules.{Rules}
use Rattle.package_files.specs.declared.all.AllListed.{AllListed}
use Rattle.package_files.specs.declared.fault.FileFault.{FileFault}
use Rattle.package_files.specs.declared.listed.Listed.{Listed}
use Rattle.package_files.specs.declared.listed.Source.{Source}
use Rattle.package_files.specs.All.{AreListed, path_in}
use Rattle.package_files.specs.Listed.{IsListedBefore}
use Rattle.gate_program.specs.declared.run.End.{End}
use Rattle.gate_program.specs.declared.run.End.TheVariants as end
use Rattle.gate_program.specs.declared.run.Request.{Request}
use Rattle.gate_program.specs.declared.run.Run.{Run}
use Rattle.gate_program.specs.Run.{IsEnd, told, no_file, no_baseline, IsJudged, IsNoOlder, IsOlder, IsOlderBy, IsRunOver, is_none, IsWithoutBaseline}

pub older_is : (s : Shelved) (how : Source) (b : Option (Bor (List ℕ))) (path : Bor (List ℕ)) (older : Vec Listed) (file : Listed)
    → b ≡ Some path → IsListedBefore s how path.now file → older.items ≡ file ∷ [] → IsOlderBy s how (option_copied b) (Some older)
older_is s how b path older file e is alone = subst (λ (o : Option (Bor (List ℕ))). IsOlderBy s how (option_copied o) (Some older)) (sym e) (file, is, alone)

pub none_are : (files seen : List Listed) → seen ≡ files → is_none seen ≡ true → files ≡ []
none_are files [] same is = sym same
none_are files (f ∷ fs) same is = absurd (false≢true is)

pub some_are : (files seen : List Listed) → seen ≡ files → is_none seen ≡ false → files ≢ []
some_are files [] same is none = absurd (true≢false is)
some_are files (f ∷ fs) same is none =
    let longer : length (f ∷ fs) ≡ 0 = ap length (same ∙ none) in
    absurd (omega (arith, longer))

-- what was read is what is told of
reads_as : (s : Shelved) (a : Request) (all : AllListed) (run : Run) → AreListed s a.wanted (map path_in a.paths.now) all.files.items all.left_out.items
    → run.files.items ≡ all.files.items → run.left_out.items ≡ all.left_out.items → AreListed s a.wanted (map path_in a.paths.now) run.files.items run.left_out.items
reads_as s a all run reads files left =
    subst (λ (fs : List Listed). AreListed s a.wanted (map path_in a.paths.now) fs run.left_out.items) (sym files)
    (subst (λ (ls : List FileFault). AreListed s a.wanted (map path_in a.paths.now) all.files.items ls) (sym left) reads)

ends_as : (s : Shelved) (c : Rows) (p : Rules) (a : Request) (files other : List Listed) (e f : End) → other ≡ files → f ≡ e → IsEnd s c p a files e → IsEnd s c p a other f
ends_as s c p a files other e f same_files same_end is =
    subst (λ (fs : List Listed). IsEnd s c p a fs f) (sym same_files) (subst (λ (x : End). IsEnd s c p a files x) (sym same_end) is)

pub without_files : (s : Shelved) (c : Rows) (p : Rules) (a : Request) (all : AllListed) (run : Run) → AreListed s a.wanted (map path_in a.paths.now) all.files.items all.left_out.items
    → all.files.items ≡ [] → run.files ≡ all.files → run.left_out ≡ all.left_out → run.end ≡ end.NoFile → IsRunOver s c p a run
without_files s c p a all run reads none files left ends = record {
  reads = reads_as s a all run reads (ap (λ (v : Vec Listed). v.items) files) (ap (λ (v : Vec FileFault). v.items) left);
  ends = ends_as s c p a all.files.items run.files.items end.NoFile run.end (ap (λ (v : Vec Listed). v.items) files) ends (no_file none);
}

pub over_older : (s : Shelved) (c : Rows) (p : Rules) (a : Request) (all : AllListed) (older : Option (Vec Listed)) (run : Run) → AreListed s a.wanted (map path_in a.paths.now) all.files.items all.left_out.items
    → all.files.items ≢ [] → IsOlder s a older → IsJudged c p a all older run → IsRunOver s c p a run
over_older s c p a all older run reads some is judged = record {
  reads = reads_as s a all run reads judged.files_are (ap (λ (v : Vec FileFault). v.items) judged.left_out_are);
  ends = ends_as s c p a all.files.items run.files.items run.end run.end judged.files_are refl (told older some is judged.ends);
}

pub lacking_baseline : (s : Shelved) (c : Rows) (p : Rules) (a : Request) (all : AllListed) (f : FileFault) (run : Run) → AreListed s a.wanted (map path_in a.paths.now) all.files.items all.left_out.items
    → all.files.items ≢ [] → IsNoOlder s a f → IsWithoutBaseline all f run → IsRunOver s c p a run
lacking_baseline s c p a all f run reads some is without = record {
  reads = reads_as s a all run reads (ap (λ (v : Vec Listed). v.items) without.files_are) (ap (λ (v : Vec FileFault). v.items) without.left_out_are);
  ends = ends_as s c p a all.files.items run.files.items (end.NoBaseline f) run.end (ap (λ (v : Vec Listed). v.items) without.files_are) without.ends (no_baseline f some is without.no_memory);
}
