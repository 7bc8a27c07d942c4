-- Packages and texts, as a page takes them.
use Rattle.std.specs.Prelude.{ℕ, List, [], Option, IsPermutation, IsSortedByKey, map, option_map, string_bytes, unwrap_or}
use Rattle.std.specs.Cmp.Lexicographic.{slice_cmp}
use Rattle.std.specs.Global.{Vec}
use Rattle.std.specs.List.{zip}
use Rattle.std.specs.Ordering.{nat_cmp}
use Rattle.package_items.specs.declared.package.Package as listed_as
use Rattle.notice_told.specs.declared.lacks.GeneralText.{GeneralText}
use Rattle.notice_told.specs.declared.packages.OwnFile.{OwnFile}
use Rattle.notice_told.specs.declared.packages.Package.{Package}
use Rattle.choice_program.specs.Named.{Named}
use Rattle.owed_texts.specs.Own.{Read}
use Rattle.owed_texts.specs.Held.{Text}
use Rattle.notice_program.specs.Taken.{Taken, named_in, taken_by}

-- a package with what it is used under, and its own files
pub record Noted : Type 0 where
  pub name : List ℕ
  pub version : List ℕ
  pub choice : List Named
  pub offered : List Named
  pub files : List Read

-- its version, or nothing
abbrev pub version_by : listed_as.Package → List ℕ
version_by p = unwrap_or (option_map string_bytes p.version) []

abbrev pub noted : Taken × List Read → Noted
noted p = record {
  name = string_bytes p.0.entry.of.name;
  version = version_by p.0.entry.of;
  choice = p.0.used.choice;
  offered = p.0.used.offered;
  files = p.1;
}

-- the packages, each with its own files
abbrev pub noted_in : List Taken → List (List Read) → List Noted
noted_in taken reads = map noted (zip taken reads)

-- ---- the same, wherever they lie

abbrev pub own_by : OwnFile → Read
own_by f = record {
  path = f.file.path.now;
  is_declared = f.file.is_declared;
  bytes = f.bytes.now;
}

abbrev pub owns_by : Vec OwnFile → List Read
owns_by files = map own_by files.items

abbrev pub noted_by : Package → Noted
noted_by p = record {
  name = p.name.now;
  version = p.version.now;
  choice = map named_in p.choice.now;
  offered = map named_in p.offered.now;
  files = map own_by p.files.now;
}

abbrev pub noted_with : Taken → Vec OwnFile → Noted
noted_with x files = noted (x, owns_by files)

abbrev pub text_by : GeneralText → Text
text_by g = record { name = g.name.now; bytes = g.bytes.now }

abbrev pub name_of : GeneralText → List ℕ
name_of g = g.name.now

-- just these texts, in the order of their names
pub record AreSorted (held : List Text) (general : List GeneralText) : Type 0 where
  pub same : IsPermutation held (map text_by general)
  pub ascend : IsSortedByKey name_of (slice_cmp nat_cmp) general
