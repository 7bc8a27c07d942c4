-- The packages of all files, with what they are used under.
use Rattle.std.specs.Prelude.{ℕ, List, Option, flat_map, map, option_map, string_bytes}
use Rattle.std.specs.Borrow.{Bor}
use Rattle.std.specs.Global.{Vec}
use Rattle.std.specs.List.{zip}
use Rattle.license_notice.specs.declared.packages.Requirement.{Requirement}
use Rattle.license_notice.specs.Wanted.{texts_of}
use Rattle.package_items.specs.declared.package.Package.{Package}
use Rattle.package_sources.specs.declared.form.Form.{Form}
use Rattle.package_files.specs.declared.listed.Listed.{Listed}
use Rattle.spdx_licensee.specs.declared.texts.RequirementTexts.{RequirementTexts}
use Rattle.choice_program.specs.declared.choosing.Chosen.{Chosen}
use Rattle.choice_program.specs.Named.{Named, shown_all, shown_in}
use Rattle.choice_program.specs.Unchosen.{told_name}
use Rattle.owed_texts.specs.declared.own.Placed.{Placed}
use Rattle.owed_texts.specs.Own.{Owner}
use Rattle.notice_program.specs.declared.taken.Entry as entry_as
use Rattle.notice_program.specs.declared.taken.Used as used_as

-- ---- the packages

-- a package as it is told, and what is known of the file that lists it
pub record Entry : Type 0 where
  pub name : List ℕ
  pub path : List ℕ
  pub guessed : Option Form
  pub of : Package

abbrev pub entry : Listed → Package → Entry
entry f p =
    record { name = told_name p; path = string_bytes f.path; guessed = f.guessed; of = p }

abbrev pub entries_of : Listed → List Entry
entries_of f = map (entry f) f.packages.items

-- those of all files, in their order
abbrev pub entries_in : List Listed → List Entry
entries_in files = flat_map entries_of files

abbrev pub package_of : Entry → Package
package_of e = e.of

abbrev pub packages_in : List Listed → List Package
packages_in files = map package_of (entries_in files)

-- ---- what they are used under

-- the requirements of a choice, and those of its expression
pub record Used : Type 0 where
  pub choice : List Named
  pub offered : List Named

abbrev pub used : List Named × List Named → Used
used p = record { choice = p.0; offered = p.1 }

abbrev pub used_in : Chosen → List Used
used_in chosen = map used (zip (shown_all chosen.choices.items) (shown_all chosen.offered.items))

-- a package with what it is used under
pub record Taken : Type 0 where
  pub entry : Entry
  pub used : Used

abbrev pub taken : Entry × Used → Taken
taken p = record { entry = p.0; used = p.1 }

-- the packages of the files, each with its own choice
abbrev pub taken_in : List Listed → Chosen → List Taken
taken_in files chosen = map taken (zip (entries_in files) (used_in chosen))

abbrev pub texts_in : Named → List (List ℕ)
texts_in q = q.texts

-- whose own texts are looked for
abbrev pub owner : Taken → Owner
owner x = record {
  name = x.entry.name;
  path = x.entry.path;
  guessed = x.entry.guessed;
  of = x.entry.of;
  offered = flat_map texts_in x.used.offered;
  chosen = flat_map texts_in x.used.choice;
}

-- ---- the parts of it, which only private clauses cite

abbrev pub named_in : Requirement → Named
named_in q = record { name = q.name.now; texts = texts_of q }

abbrev pub entry_of : entry_as.Entry → Entry
entry_of e = record {
  name = string_bytes e.name;
  path = string_bytes e.file.now.path;
  guessed = e.file.now.guessed;
  of = e.listed.now;
}

abbrev pub used_by : used_as.Used → Used
used_by u = record { choice = map named_in u.choice.items; offered = map named_in u.offered.items }

abbrev pub used_with : List Named → Vec RequirementTexts → Used
used_with choice offered = record { choice = choice; offered = shown_in offered }

abbrev pub taken_with : Entry → used_as.Used → Taken
taken_with e u = record { entry = e; used = used_by u }

abbrev pub taken_by : Placed → Taken
taken_by x = record {
  entry = record {
    name = x.name.now;
    path = string_bytes x.file.now.path;
    guessed = x.file.now.guessed;
    of = x.listed.now;
  };
  used = record {
    choice = map named_in x.choice.now;
    offered = map named_in x.offered.now;
  };
}
