-- Texts that packages want and don't have.
use Rattle.std.specs.Prelude.{ℕ, Bool, ◌&&◌, not, List, [], ◌∷◌, bytes_eq, map, filter, flat_map}
use Rattle.std.specs.List.{list_any}
use Rattle.license_notice.specs.Notices.{line_of}
use Rattle.license_notice.specs.Rows.{Line}
use Rattle.notice_texts.specs.Owed.{is_license_text, is_owed, seen}
use Rattle.notice_told.specs.declared.lacks.GeneralText.{GeneralText}
use Rattle.notice_told.specs.declared.lacks.Lack.{Lack}
use Rattle.notice_told.specs.declared.packages.OwnFile.{OwnFile}
use Rattle.notice_told.specs.declared.packages.Package.{Package}
use Rattle.notice_told.specs.Packages.{chosen_by, offered_by}

-- a package, and the name of a text
pub record Lacked : Type 0 where
  pub line : Line
  pub text : List ℕ

abbrev pub seen_lack : Lack → Lacked
seen_lack l = record { line = line_of l.release; text = l.text.now }

-- the file may be the text of that name: it is a licence's, and owed where that one alone is chosen
abbrev pub may_be : List (List ℕ) → List ℕ → OwnFile → Bool
may_be offered name f =
    is_license_text (seen f.file) && is_owed offered (name ∷ []) (seen f.file)

abbrev pub has_among : List OwnFile → List (List ℕ) → List ℕ → Bool
has_among files offered name = list_any (may_be offered name) files

-- a file of the package may be the text of that name
abbrev pub has_own : Package → List ℕ → Bool
has_own p name = has_among p.files.now (offered_by p) name

abbrev pub lack : Package → List ℕ → Lacked
lack p name =
    record { line = record { name = p.name.now; version = p.version.now }; text = name }

-- the texts that a package wants and doesn't have, in their order
abbrev pub lacks_of : Package → List Lacked
lacks_of p = map (lack p) (filter (λ name. not (has_own p name)) (chosen_by p))

abbrev pub lacks_in : List Package → List Lacked
lacks_in packages = flat_map lacks_of packages

-- one of the general texts has the name
abbrev pub is_held : List GeneralText → List ℕ → Bool
is_held held name = list_any (λ (g : GeneralText). bytes_eq g.name.now name) held

-- what packages lack and no general text is
abbrev pub missing : List GeneralText → List Lacked → List Lacked
missing held lacks = filter (λ (l : Lacked). not (is_held held l.text)) lacks
