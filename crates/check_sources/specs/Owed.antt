-- What is told of files as a whole: license texts that are missing or not needed, and files without
-- a license.
use Rattle.std.specs.Prelude.{◌≡◌, ℕ, ◌==◌, Bool, true, false, List, [], ◌∷◌, ◌++◌, Option, Some, None, bytes_eq, codes, drop, filter, flat_map, length, map, not, reverse, string_bytes, if◌then◌else◌}
use Rattle.std.specs.List.{prefix_len}
use Rattle.std.specs.Option.{option_map_or}
use Rattle.std.specs.Path.{path_file_name}
use Rattle.finding_forms.specs.declared.forms.Format.{Format}
use Rattle.finding_forms.specs.Finding.{Told, nothing, seen_alone}
use Rattle.finding_forms.specs.Forms.{finding_text}
use Rattle.notice_texts.specs.Lacking.{has_text, is_among, is_needed, missing}
use Rattle.check_sources.specs.declared.owed.Whole as written

-- a file, what it is called, and what is told of it
pub record Whole : Type 0 where
  pub path : List ℕ
  pub name : List ℕ
  pub reason : List ℕ

abbrev pub whole_of : written.Whole → Whole
whole_of w =
    record { path = string_bytes w.path; name = string_bytes w.name; reason = w.reason.now }

-- the last part of a path
abbrev pub name_in : Option (List ℕ) → List ℕ
name_in None = []
name_in (Some name) = name

abbrev pub name_of : List ℕ → List ℕ
name_of path = name_in (path_file_name path)

abbrev pub whole_names : List (List ℕ) → List (List ℕ)
whole_names paths = map name_of paths

unfoldable pub no_license : List ℕ
no_license = codes "no license is told here"

unfoldable pub is_missing : List ℕ
is_missing = codes "the text of this license is missing"

unfoldable pub is_unused : List ℕ
is_unused = codes "no expression uses the license of this text"

-- this is told of the file at the path
abbrev pub told_at : List ℕ → List ℕ → Whole
told_at path reason = record { path = path; name = name_of path; reason = reason }

-- a file without a license
abbrev pub bare_at : List ℕ → Whole
bare_at path = told_at path no_license

abbrev pub past_slashes : List ℕ → List ℕ
past_slashes path = drop (prefix_len (λ b. b == 47) path) path

-- without the slashes at its end
abbrev pub without_slashes : List ℕ → List ℕ
without_slashes path = reverse (past_slashes (reverse path))

-- the text of this name would be in the folder
abbrev pub missing_at : List ℕ → List ℕ → Whole
missing_at folder name = record {
  path = without_slashes folder ++ (codes "/" ++ (name ++ codes ".txt"));
  name = name;
  reason = is_missing;
}

-- no expression uses the license of the file
abbrev pub unused_at : List ℕ → Whole
unused_at path = told_at path is_unused

-- the file at the path is the text of no name that is used
abbrev pub is_idle : List (List ℕ) → List ℕ → Bool
is_idle used path = not (is_needed used (name_of path))

-- of these names that are used and the files at these paths, first the texts that are missing
abbrev pub owed_by : List ℕ → List (List ℕ) → List (List ℕ) → List Whole
owed_by folder used paths =
    map (missing_at folder) (missing used (whole_names paths))
    ++ map unused_at (filter (is_idle used) paths)

-- the names but for the first, where that is this one
abbrev pub after : List (List ℕ) → List ℕ → Option (List (List ℕ))
after [] name = None
after (first ∷ names) name = if bytes_eq first name then Some names else None

-- of the files at these paths those that are called so, where the names are in their order
abbrev pub those_called : List (List ℕ) → List (List ℕ) → List (List ℕ)
those_called names [] = []
those_called names (path ∷ paths) =
    option_map_or (λ others. path ∷ those_called others paths) (after names (name_of path))
    (those_called names paths)

-- where nothing is told, each name that is used has its text, and each file is that of such a name
abbrev pub TellsAll : List written.Whole → List (List ℕ) → List (List ℕ) → Type 0
TellsAll wholes used files = wholes ≡ [] →
    ((name : List ℕ) → is_among used name ≡ true → has_text files name ≡ true)
    × ((file : List ℕ) → is_among files file ≡ true → is_needed used file ≡ true)

-- ---- how it is written

-- in the first line and column
abbrev pub told_whole : Whole → Told
told_whole w = record {
  file = w.path;
  line = 1;
  column = 1;
  expression = w.name;
  start = 0;
  end = length w.name;
  reason = w.reason;
  aid = nothing;
  seen = seen_alone 1 1 w.name 0 (length w.name);
}

abbrev pub whole_text : Format → Bool → Whole → List ℕ
whole_text format is_first w = finding_text format is_first (told_whole w)

abbrev pub others_text : Format → List Whole → List ℕ
others_text format ws = flat_map (whole_text format false) ws

-- the first of them may be the first finding at all
abbrev pub wholes_text : Format → Bool → List Whole → List ℕ
wholes_text format is_first [] = []
wholes_text format is_first (w ∷ ws) = whole_text format is_first w ++ others_text format ws
