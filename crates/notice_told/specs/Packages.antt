-- Which files of packages are owed under their choices.
use Rattle.std.specs.Prelude.{ℕ, Bool, List, map, filter, flat_map}
use Rattle.license_notice.specs.Wanted.{texts_of}
use Rattle.notice_texts.specs.Owed.{is_owed, seen}
use Rattle.notice_texts.specs.Shared.{Own}
use Rattle.notice_told.specs.declared.packages.OwnFile.{OwnFile}
use Rattle.notice_told.specs.declared.packages.Package.{Package}

-- the names of the texts that its choice wants
abbrev pub chosen_by : Package → List (List ℕ)
chosen_by p = flat_map texts_of p.choice.now

-- and of those that its expression names
abbrev pub offered_by : Package → List (List ℕ)
offered_by p = flat_map texts_of p.offered.now

-- what a file of the package holds
abbrev pub own_in : Package → OwnFile → Own
own_in p f = record {
  holder = record { name = p.name.now; version = p.version.now; file = f.file.path.now };
  bytes = f.bytes.now;
}

abbrev pub is_owed_by : Package → OwnFile → Bool
is_owed_by p f = is_owed (offered_by p) (chosen_by p) (seen f.file)

-- what those files of the package hold that are owed, in their order
abbrev pub owns_of : Package → List Own
owns_of p = map (own_in p) (filter (is_owed_by p) p.files.now)

abbrev pub owns_in : List Package → List Own
owns_in packages = flat_map owns_of packages
