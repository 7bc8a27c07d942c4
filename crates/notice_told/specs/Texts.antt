-- The texts of a page.
use Rattle.std.specs.Prelude.{◌≡◌, ℕ, Bool, ◌==◌, List, [], ◌∷◌, ◌++◌, bytes_eq, codes, length, map, filter, string_bytes, if◌then◌else◌}
use Rattle.std.specs.List.{list_any}
use Rattle.license_notice.specs.Notices.{line_of}
use Rattle.license_notice.specs.Once.{AreOnce}
use Rattle.license_notice.specs.Rows.{Line}
use Rattle.notice_forms.specs.Told.{Named}
use Rattle.notice_texts.specs.declared.texts.SharedText.{SharedText}
use Rattle.notice_texts.specs.Shared.{Held, Shared, shared_of}
use Rattle.notice_told.specs.declared.lacks.GeneralText.{GeneralText}
use Rattle.notice_told.specs.declared.texts.PageText.{PageText}
use Rattle.notice_told.specs.Lacks.{Lacked}

abbrev pub page_named : PageText → Named
page_named t =
    record { name = string_bytes t.name; lines = map line_of t.packages.items; bytes = t.bytes.now }

-- ---- those that packages have

-- a file, behind its package's name, and version where it has one
unfoldable pub file_name : Held → List ℕ
file_name h =
    if length h.version == 0 then h.name ++ (codes ": " ++ h.file)
    else h.name ++ (codes " " ++ (h.version ++ (codes ": " ++ h.file)))

-- a text goes by the first file that has it
abbrev pub own_name : List Held → List ℕ
own_name [] = []
own_name (h ∷ hs) = file_name h

abbrev pub line_held : Held → Line
line_held h = record { name = h.name; version = h.version }

-- below its name stand the packages that have it, and no others
pub record IsOwnText (s : Shared) (t : Named) : Type 0 where
  pub name_is : t.name ≡ own_name s.holders
  pub lines_are : AreOnce (map line_held s.holders) t.lines
  pub bytes_are : t.bytes ≡ s.bytes

abbrev pub IsOwnTextOf : SharedText → PageText → Type 0
IsOwnTextOf s t = IsOwnText (shared_of s) (page_named t)

-- ---- general ones

-- some package lacks the text of that name
abbrev pub is_lacked : List Lacked → List ℕ → Bool
is_lacked lacks name = list_any (λ (l : Lacked). bytes_eq l.text name) lacks

-- those that some package lacks
abbrev pub used : List Lacked → List GeneralText → List GeneralText
used lacks general = filter (λ (g : GeneralText). is_lacked lacks g.name.now) general

unfoldable pub general_name : Bool → List ℕ → List ℕ
general_name marked name = if marked then name ++ codes " (general text)" else name

-- the packages that lack the text of that name
abbrev pub lines_lacking : List Lacked → List ℕ → List Line
lines_lacking lacks name =
    map (λ (l : Lacked). l.line) (filter (λ (l : Lacked). bytes_eq l.text name) lacks)

abbrev pub lines_below : Bool → List Lacked → List ℕ → List Line
lines_below marked lacks name = if marked then lines_lacking lacks name else []

-- where it is marked, its name says that it is general, and below stand the packages that lack it
pub record IsGeneralText (marked : Bool) (lacks : List Lacked) (g : GeneralText)
    (t : Named) : Type 0 where
  pub name_is : t.name ≡ general_name marked g.name.now
  pub lines_are : AreOnce (lines_below marked lacks g.name.now) t.lines
  pub bytes_are : t.bytes ≡ g.bytes.now

abbrev pub IsGeneralTextOf : Bool → List Lacked → GeneralText → PageText → Type 0
IsGeneralTextOf marked lacks g t = IsGeneralText marked lacks g (page_named t)
