-- What `diff` writes and tells, and with which status it ends.
use Rattle.std.specs.Prelude.{◌≡◌, ◌==◌, ℕ, Bool, true, false, List, [], ◌++◌, Option, None, Some, String, codes, map, nat_lt, option_map, string_bytes, if◌then◌else◌}
use Rattle.std.specs.declared.alloc.Global.{Global}
use Rattle.std.specs.Fmt.{decimal}
use Rattle.changes_program.specs.Run.{IsRun, status_of}
use Rattle.changes_program.specs.declared.run.Request.{Request}
use Rattle.changes_program.specs.declared.run.Run.{Run}
use Rattle.changes_program.specs.declared.run.ToldChanges.{ToldChanges}
use Rattle.changes_program.specs.declared.run.Totals.{Totals}
use Rattle.list_program.specs.Named.{InsideBytes}
use Rattle.package_files.specs.Listed.{IsListedAt}
use Rattle.package_files.specs.declared.listed.Listed.{Listed}
use Rattle.shelves.specs.Shelf.{Shelved}
use Rattle.package_commands.specs.Forms.{AreFormsTold}
use Rattle.package_commands.specs.declared.differences.DiffTask.{DiffTask}
use Rattle.package_commands.specs.declared.differences.DiffEnd.{DiffEnd}
use Rattle.spdx_commands.specs.Said as said
use Rattle.spdx_commands.specs.declared.said.Said.{Said}
use Rattle.spdx_troubles.specs.Causes.{file_trouble}
use Rattle.spdx_troubles.specs.declared.trouble.Trouble.{Trouble}

-- ---- the line of totals

abbrev pub packages_word : ℕ → List ℕ
packages_word count = if count == 1 then codes "package" else codes "packages"

abbrev pub packages_text : Totals → List ℕ
packages_text t =
    decimal t.before ++ (codes " " ++ (packages_word t.before ++ (codes " before, " ++
    (decimal t.now ++ (codes " now: " ++ (decimal t.came ++ (codes " came, " ++
    (decimal t.went ++ codes " went"))))))))

abbrev pub changed_text : Totals → List ℕ
changed_text t =
    codes ", " ++ (decimal t.changed ++ (codes " changed license (" ++
    (decimal t.more ++ codes " ask for more or other)")))

-- nothing where none is refused
abbrev pub refused_text : ℕ → List ℕ
refused_text refused =
    if nat_lt 0 refused then codes ", " ++ (decimal refused ++ codes " refused") else []

abbrev pub totals_line : Totals → List ℕ
totals_line t =
    packages_text t ++ (changed_text t ++ (refused_text t.refused ++ codes "\n"))

abbrev pub line_if : Bool → Totals → Option (List ℕ)
line_if true t = Some (totals_line t)
line_if false t = None

-- where it is wanted and both files are read
abbrev pub totals_if : Bool → Option ToldChanges → Option (List ℕ)
totals_if wanted None = None
totals_if wanted (Some told) = line_if wanted told.totals

abbrev pub line_of : Option (String Global) → Option (List ℕ)
line_of line = option_map string_bytes line

-- ---- the command

-- nothing where a file is left out
abbrev pub text_of : Option ToldChanges → List ℕ
text_of None = []
text_of (Some told) = told.text.items

-- what is written and told of a run: first why files are left out, then how others were read; and
-- the line of totals
pub record IsDiffTold (wanted : Bool) (run : Run) (text : List ℕ) (told : List Trouble)
    (totals : Option (String Global)) : Type 0 where
  pub forms : List Trouble
  pub text_is : text ≡ text_of run.told
  pub forms_are : AreFormsTold run.files.items forms
  pub told_are : told ≡ map file_trouble run.left_out.items ++ forms
  pub totals_are : line_of totals ≡ totals_if wanted run.told

-- what comes of a run is written and told
pub record IsDiff (s : Shelved) (inside : InsideBytes) (replacements : List ℕ) (a : DiffTask)
    (text : List ℕ) (told : List Trouble) (c : DiffEnd) : Type 0 where
  pub run : Run
  pub is_run : IsRun s inside replacements a.run run
  pub told_are : IsDiffTold a.tells_totals run text told c.totals
  pub status_is : c.status ≡ status_of run

-- so it is with such an end
abbrev pub SaysDiff : Shelved → InsideBytes → List ℕ → DiffTask → List ℕ → List Trouble → Type 0
SaysDiff s inside replacements a text told =
    (c : DiffEnd) × IsDiff s inside replacements a text told c

-- both files list packages
pub record AreBothRead (s : Shelved) (a : Request) : Type 0 where
  pub older : Listed
  pub newer : Listed
  pub older_is : IsListedAt s a.wanted a.old.now older
  pub newer_is : IsListedAt s a.wanted a.new.now newer

-- ---- the parts of it, which only private clauses cite

-- this is said of the changes, behind what is told before
pub record IsToldSaid (before : List Trouble) (wanted : Bool) (told : Option ToldChanges) (s : Said)
    (totals : Option (String Global)) : Type 0 where
  pub before_is : s.before.items ≡ before
  pub after_is : s.after.items ≡ []
  pub text_is : said.text_of s ≡ text_of told
  pub totals_are : line_of totals ≡ totals_if wanted told
