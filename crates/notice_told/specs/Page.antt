-- The page of packages with their texts, and what isn't on it.
use Rattle.std.specs.Prelude.{◌≡◌, ◌↔◌, ℕ, ◌<◌, Bool, true, false, List, ◌++◌, All, Any, Contains, ⊤, length, map, string_bytes}
use Rattle.std.specs.List.{AllZip}
use Rattle.std.specs.List.Sorted.{IsStrictlySortedBy}
use Rattle.std.specs.Str.{IsUtf8}
use Rattle.license_notice.specs.declared.packages.Package as noted_as
use Rattle.license_notice.specs.Notices.{names_of}
use Rattle.license_notice.specs.Once.{AreOnce}
use Rattle.license_notice.specs.Places.{AreByPackage}
use Rattle.license_notice.specs.Rows.{Band, Line, Row, all_rows, row_cmp, text_cmp}
use Rattle.license_notice.specs.Wanted.{chosen_rows}
use Rattle.notice_forms.specs.declared.pages.Format.{Format}
use Rattle.notice_forms.specs.declared.pages.Format.TheVariants.{Text, Markdown, Html, Json}
use Rattle.notice_forms.specs.Pages.{page_in}
use Rattle.notice_forms.specs.Told.{Named, Told}
use Rattle.notice_texts.specs.Shared.{EachStands, NothingElse, gathered}
use Rattle.notice_told.specs.declared.lacks.GeneralText.{GeneralText}
use Rattle.notice_told.specs.declared.packages.Package.{Package}
use Rattle.notice_told.specs.declared.page.TheConstants.{TITLE}
use Rattle.notice_told.specs.declared.page.Look.{Look}
use Rattle.notice_told.specs.declared.page.NoticeFault.{NoticeFault}
use Rattle.notice_told.specs.declared.page.NoticeFault.TheVariants.{Memory, NotUtf8}
use Rattle.notice_told.specs.declared.page.NoticeText.{NoticeText}
use Rattle.notice_told.specs.declared.page.PageTexts.{PageTexts}
use Rattle.notice_told.specs.declared.page.Totals.{Totals}
use Rattle.notice_told.specs.Lacks.{Lacked, lacks_in, missing, seen_lack}
use Rattle.notice_told.specs.Packages.{owns_in}
use Rattle.notice_told.specs.Texts.{IsGeneralText, IsOwnText, page_named, used}

-- ---- who stands where

-- a package with the requirements of its choice
abbrev pub noted : Package → noted_as.Package
noted p = record { name = p.name; version = p.version; choice = p.choice }

-- each package stands under exactly the requirements of its choice; requirements ascend, and the
-- packages under each
pub record AreGroups (packages : List Package) (bands : List Band) : Type 0 where
  pub chosen : (r : Row) →
      Contains (all_rows bands) r ↔ Contains (chosen_rows (map noted packages)) r
  pub ascend : IsStrictlySortedBy row_cmp (all_rows bands)
  pub groups_ascend : IsStrictlySortedBy text_cmp (names_of bands)
  pub none_empty : All (λ b. 0 < length b.lines) bands

-- ---- the texts

-- the owed files of the packages, the same texts once, and then the general texts that some package
-- lacks
pub record AreTexts (marked : Bool) (packages : List Package) (lacks : List Lacked)
    (general : List GeneralText) (own others : List Named) : Type 0 where
  pub own_are : AllZip IsOwnText (gathered (owns_in packages)) own
  pub others_are : AllZip (IsGeneralText marked lacks) (used lacks general) others
  -- each owed file of each package is there, and no other one
  pub each_stands : EachStands (owns_in packages) (gathered (owns_in packages))
  pub nothing_else : NothingElse (owns_in packages) (gathered (owns_in packages))

abbrev pub own_in : PageTexts → List Named
own_in texts = map page_named texts.own.items

abbrev pub others_in : PageTexts → List Named
others_in texts = map page_named texts.general.items

abbrev pub texts_in : PageTexts → List Named
texts_in texts = own_in texts ++ others_in texts

abbrev pub IsTextsOf : Bool → List Package → List Lacked → List GeneralText → PageTexts → Type 0
IsTextsOf marked packages lacks general texts =
    AreTexts marked packages lacks general (own_in texts) (others_in texts)

abbrev pub told_of : List Band → List Line → List Named → Told
told_of bands packages texts =
    record { title = TITLE.now; bands = bands; packages = packages; texts = texts }

-- ---- how many

-- so many different ones
abbrev pub CountsOnce : List Line → ℕ → Type 0
CountsOnce lines count = (once : List Line) × AreOnce lines once × (count ≡ length once)

abbrev pub line_of_package : Package → Line
line_of_package p = record { name = p.name.now; version = p.version.now }

pub record AreTotalsOf (packages : List Package) (own others : List Named)
    (missing : List Lacked) (totals : Totals) : Type 0 where
  pub packages_are : CountsOnce (map line_of_package packages) totals.packages
  pub own_are : totals.own ≡ length own
  pub general_are : totals.general ≡ length others
  pub without_are : CountsOnce (map (λ (l : Lacked). l.line) missing) totals.without

abbrev pub AreTotals : List Package → PageTexts → List Lacked → Totals → Type 0
AreTotals packages texts missing totals =
    AreTotalsOf packages (own_in texts) (others_in texts) missing totals

-- ---- the whole

pub record IsNotice (look : Look) (packages : List Package) (general : List GeneralText)
    (notice : NoticeText) : Type 0 where
  pub bands : List Band
  pub turned : List Line
  pub own : List Named
  pub others : List Named
  pub grouped : AreGroups packages bands
  pub by_package : AreByPackage bands turned
  pub texts_are : AreTexts look.marks_general packages (lacks_in packages) general own others
  pub bytes_are : notice.bytes.items ≡ page_in look.format (told_of bands turned (own ++ others))
  pub missing_are : map seen_lack notice.missing.items ≡ missing general (lacks_in packages)
  pub totals_are : AreTotalsOf packages own others (missing general (lacks_in packages))
      notice.totals

-- whether pages of the form are UTF-8
abbrev pub is_utf8 : Format → Bool
is_utf8 Text = false
is_utf8 Markdown = false
is_utf8 Html = true
is_utf8 Json = true

-- memory was refused, or pages of the form are UTF-8 and a text of that name isn't
abbrev pub IsPageFault : Format → List Named → NoticeFault → Type 0
IsPageFault format texts Memory = ⊤
IsPageFault format texts (NotUtf8 name) =
    (is_utf8 format ≡ true)
    × Any (λ (t : Named). (t.name ≡ string_bytes name) × (¬ (IsUtf8 t.bytes))) texts

-- the same of a page of these packages
abbrev pub IsNoticeFault : Look → List Package → List GeneralText → NoticeFault → Type 0
IsNoticeFault look packages general Memory = ⊤
IsNoticeFault look packages general (NotUtf8 name) =
    (own : List Named) × (others : List Named) ×
    AreTexts look.marks_general packages (lacks_in packages) general own others ×
    IsPageFault look.format (own ++ others) (NotUtf8 name)
