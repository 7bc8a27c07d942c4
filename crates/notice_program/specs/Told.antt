-- What is told of a page.
use Rattle.std.specs.Prelude.{◌≡◌, ℕ, Bool, true, false, ◌==◌, List, [], ◌∷◌, ◌++◌, Option, None, Some, codes, length, map, option_map, string_bytes, if◌then◌else◌}
use Rattle.std.specs.Global.{Vec}
use Rattle.owed_texts.specs.declared.home.OwnTexts.{OwnTexts}
use Rattle.owed_texts.specs.declared.home.OwnTexts.TheVariants as own
use Rattle.notice_told.specs.declared.lacks.Lack.{Lack}
use Rattle.notice_told.specs.declared.page.NoticeText.{NoticeText}
use Rattle.notice_told.specs.Lacks.{Lacked, seen_lack}
use Rattle.notice_told.specs.Totals.{totals_line}
use Rattle.notice_program.specs.declared.end.Missing.{Missing}
use Rattle.notice_program.specs.declared.end.ToldPage.{ToldPage}
use Rattle.notice_program.specs.declared.end.Request.{Request}

-- packages have texts of their own
abbrev pub has_own : OwnTexts → Bool
has_own own.Left = false
has_own (own.Below all) = true
has_own own.Installed = true

-- ---- what is missing

-- a package as it is told, and the name of the text that it lacks
pub record Lacking : Type 0 where
  pub package_name : List ℕ
  pub text : List ℕ

-- by its name, and by its version where it has one
abbrev pub package_name : List ℕ → List ℕ → List ℕ
package_name name version =
    if length version == 0 then name else name ++ (codes " " ++ version)

abbrev pub lacking_of : Lacked → Lacking
lacking_of l =
    record { package_name = package_name l.line.name l.line.version; text = l.text }

abbrev pub missing_by : Missing → Lacking
missing_by m = record { package_name = string_bytes m.«package»; text = string_bytes m.text }

-- ---- the page

-- where all texts have to be there, there is none if one is missing
abbrev pub unless_missing : Bool → List Lack → Vec ℕ → Option (Vec ℕ)
unless_missing true (l ∷ lacks) bytes = None
unless_missing true [] bytes = Some bytes
unless_missing false lacks bytes = Some bytes

-- the page and what is missing on it are told, and how many there are
pub record IsToldOwn (is_strict : Bool) (text : NoticeText) (n : ToldPage) : Type 0 where
  pub page_is : n.page ≡ unless_missing is_strict text.missing.items text.bytes
  pub missing_are : map missing_by n.missing.items
      ≡ map lacking_of (map seen_lack text.missing.items)
  pub totals_are : option_map string_bytes n.totals ≡ Some (totals_line text.totals)

-- the page alone is
pub record IsToldAlone (text : NoticeText) (n : ToldPage) : Type 0 where
  pub page_is : n.page ≡ Some text.bytes
  pub none_missing : n.missing.items ≡ []
  pub no_totals : n.totals ≡ None

abbrev pub IsToldBy : Bool → Bool → NoticeText → ToldPage → Type 0
IsToldBy true is_strict text n = IsToldOwn is_strict text n
IsToldBy false is_strict text n = IsToldAlone text n

abbrev pub IsTold : Request → NoticeText → ToldPage → Type 0
IsTold a text n = IsToldBy (has_own a.folders.own) a.is_strict text n
