-- Which request the words of a command line are: each part of it is what an option of its command, or a
-- word that is none, is given.
use Rattle.clap.specs.Walk.{Row, Text, first_of, texts}
use Rattle.std.specs.Borrow.{Bor}
use Rattle.std.specs.Option.{option_map_or}
use Rattle.std.specs.Prelude.{◌≡◌, Bool, true, false, not, List, Option, Some, None, bytes_eq}
use Rattle.std.specs.Prelude.{codes, if◌then◌else◌, option_and_then, option_map, unwrap_or}
use Rattle.spdx_words.specs.Options.{all_in, has}
use Rattle.spdx_words.specs.declared.packages.request.Accepted.{Accepted}
use Rattle.spdx_words.specs.declared.packages.request.Accepted.TheVariants as accepted
use Rattle.spdx_words.specs.declared.packages.request.ChangesFormat.{ChangesFormat}
use Rattle.spdx_words.specs.declared.packages.request.ChangesFormat.TheVariants as change
use Rattle.spdx_words.specs.declared.packages.request.ChangesRequest.{ChangesRequest}
use Rattle.spdx_words.specs.declared.packages.request.GateFormat.{GateFormat}
use Rattle.spdx_words.specs.declared.packages.request.GateFormat.TheVariants as verdict
use Rattle.spdx_words.specs.declared.packages.request.GateRequest.{GateRequest}
use Rattle.spdx_words.specs.declared.packages.request.NoticeRequest.{NoticeRequest}
use Rattle.spdx_words.specs.declared.packages.request.OwnTexts.{OwnTexts}
use Rattle.spdx_words.specs.declared.packages.request.OwnTexts.TheVariants as own
use Rattle.spdx_words.specs.declared.packages.request.PageFormat.{PageFormat}
use Rattle.spdx_words.specs.declared.packages.request.PageFormat.TheVariants as page
use Rattle.spdx_words.specs.declared.packages.request.Source.{Source}
use Rattle.spdx_words.specs.declared.packages.request.Source.TheVariants as source
use Rattle.spdx_words.specs.declared.packages.request.SourceForm.{SourceForm}
use Rattle.spdx_words.specs.declared.packages.request.SourceForm.TheVariants as form
use Rattle.spdx_words.specs.declared.request.CheckRequest.{CheckRequest}
use Rattle.spdx_words.specs.declared.request.CompareRequest.{CompareRequest}
use Rattle.spdx_words.specs.declared.request.DiffRequest.{DiffRequest}
use Rattle.spdx_words.specs.declared.request.FindingFormat.{FindingFormat}
use Rattle.spdx_words.specs.declared.request.FindingFormat.TheVariants as finding
use Rattle.spdx_words.specs.declared.request.FixRequest.{FixRequest}
use Rattle.spdx_words.specs.declared.request.MakeRequest.{MakeRequest}
use Rattle.spdx_words.specs.declared.request.ShowRequest.{ShowRequest}
use Rattle.spdx_words.specs.declared.request.SimplifyRequest.{SimplifyRequest}
use Rattle.spdx_words.specs.declared.request.Wanted.{Wanted}
use Rattle.spdx_words.specs.declared.request.Wanted.TheVariants as wanted

abbrev pub text : Option (Bor Text) → Option Text
text = option_map (λ t. t.now)

-- ---- the commands over expressions

-- by its name; `human` where none is said
abbrev pub finding_format : Text → FindingFormat
finding_format name =
    if bytes_eq name (codes "short") then finding.Short else
    if bytes_eq name (codes "json") then finding.Json else
    if bytes_eq name (codes "github") then finding.Github else
    if bytes_eq name (codes "sarif") then finding.Sarif else
    finding.Human

abbrev pub IsWanted : List Row → Wanted → Type 0
IsWanted rows (wanted.Form name) = first_of (codes "as") rows ≡ Some name.now
IsWanted rows wanted.Headers =
    (first_of (codes "as") rows ≡ None) × (has rows (codes "headers") ≡ true)
IsWanted rows wanted.Manifests =
    (first_of (codes "as") rows ≡ None) × (has rows (codes "headers") ≡ false)
    × (has rows (codes "manifests") ≡ true)
IsWanted rows wanted.ByName =
    (first_of (codes "as") rows ≡ None) × (has rows (codes "headers") ≡ false)
    × (has rows (codes "manifests") ≡ false)

pub record IsCheck (rows : List Row) (r : CheckRequest) : Type 0 where
  pub list : text r.list ≡ first_of (codes "list") rows
  pub format : r.format
      ≡ option_map_or finding_format (first_of (codes "format") rows) finding.Human
  pub is_lax : r.is_lax ≡ has rows (codes "lax")
  pub wanted : IsWanted rows r.wanted
  pub texts_folder : text r.texts ≡ first_of (codes "texts") rows
  pub untagged : r.untagged ≡ has rows (codes "untagged")
  pub quiet : r.quiet ≡ has rows (codes "quiet")
  pub summary : r.summary ≡ not (has rows (codes "no-summary"))
  pub paths : texts r.paths.items ≡ all_in rows (codes "PATH")

pub record IsFix (rows : List Row) (r : FixRequest) : Type 0 where
  pub list : text r.list ≡ first_of (codes "list") rows
  pub write : r.write ≡ has rows (codes "write")
  pub break_links : r.break_links ≡ has rows (codes "break-links")
  pub wanted : IsWanted rows r.wanted
  pub paths : texts r.paths.items ≡ all_in rows (codes "PATH")

pub record IsCompare (rows : List Row) (r : CompareRequest) : Type 0 where
  pub list : text r.list ≡ first_of (codes "list") rows
  pub is_lax : r.is_lax ≡ has rows (codes "lax")
  pub one : Some r.one.now ≡ first_of (codes "ONE") rows
  pub other : Some r.other.now ≡ first_of (codes "OTHER") rows

pub record IsSimplify (rows : List Row) (r : SimplifyRequest) : Type 0 where
  pub list : text r.list ≡ first_of (codes "list") rows
  pub is_lax : r.is_lax ≡ has rows (codes "lax")
  pub paths : texts r.paths.items ≡ all_in rows (codes "PATH")

-- ---- the commands over packages

abbrev pub other_form_named : Text → Option SourceForm
other_form_named name =
    if bytes_eq name (codes "pip") then Some form.Pip else
    if bytes_eq name (codes "cyclonedx") then Some form.CycloneDx else
    if bytes_eq name (codes "spdx") then Some form.Spdx else
    if bytes_eq name (codes "spdx-3") then Some form.SpdxThree else
    if bytes_eq name (codes "license-checker") then Some form.LicenseChecker else
    if bytes_eq name (codes "pnpm") then Some form.Pnpm else
    if bytes_eq name (codes "metadata") then Some form.Metadata else
    None

-- a form of packages by its name, and whether the first row names the columns
abbrev pub form_named : Bool → Text → Option SourceForm
form_named header name =
    if bytes_eq name (codes "lines") then Some form.Lines else
    if bytes_eq name (codes "tsv") then Some (form.Tsv header) else
    if bytes_eq name (codes "csv") then Some (form.Csv header) else
    if bytes_eq name (codes "verdicts") then Some form.Verdicts else
    if bytes_eq name (codes "cargo") then Some form.Cargo else
    if bytes_eq name (codes "npm") then Some form.Npm else
    if bytes_eq name (codes "composer") then Some form.Composer else
    other_form_named name

abbrev pub form_in : List Row → Option SourceForm
form_in rows =
    option_and_then (form_named (has rows (codes "header"))) (first_of (codes "from") rows)

abbrev pub IsSource : List Row → Source → Type 0
IsSource rows (source.At each name version license) =
    (first_of (codes "each") rows ≡ Some each.now)
    × (name.now ≡ unwrap_or (first_of (codes "name") rows) (codes "/name"))
    × (text version ≡ first_of (codes "package-version") rows)
    × (license.now ≡ unwrap_or (first_of (codes "license") rows) (codes "/license"))
IsSource rows (source.Named form) =
    (first_of (codes "each") rows ≡ None) × (form_in rows ≡ Some form)
IsSource rows source.Auto = (first_of (codes "each") rows ≡ None) × (form_in rows ≡ None)

abbrev pub gate_format : Text → GateFormat
gate_format name =
    if bytes_eq name (codes "short") then verdict.Short else
    if bytes_eq name (codes "json") then verdict.Json else
    if bytes_eq name (codes "github") then verdict.Github else
    if bytes_eq name (codes "sarif") then verdict.Sarif else
    if bytes_eq name (codes "html") then verdict.Html else
    verdict.Human

abbrev pub gate_format_in : List Row → GateFormat
gate_format_in rows = option_map_or gate_format (first_of (codes "format") rows) verdict.Human

pub record IsGate (rows : List Row) (r : GateRequest) : Type 0 where
  pub list : text r.list ≡ first_of (codes "list") rows
  pub policy : Some r.policy.now ≡ first_of (codes "policy") rows
  pub source : IsSource rows r.source
  pub format : r.format ≡ gate_format_in rows
  pub baseline : text r.baseline ≡ first_of (codes "baseline") rows
  pub explain : text r.explain ≡ first_of (codes "explain") rows
  pub quiet : r.quiet ≡ has rows (codes "quiet")
  pub allow_empty : r.allow_empty ≡ has rows (codes "allow-empty")
  pub tells_unused : r.tells_unused ≡ not (has rows (codes "no-unused"))
  pub exclude_own : r.exclude_own ≡ has rows (codes "exclude-own")
  pub paths : texts r.paths.items ≡ all_in rows (codes "PATH")

abbrev pub IsAccepted : List Row → Accepted → Type 0
IsAccepted rows (accepted.List list is_lax) =
    (first_of (codes "accept") rows ≡ Some list.now) × (is_lax ≡ has rows (codes "lax"))
IsAccepted rows (accepted.Policy file) =
    (first_of (codes "accept") rows ≡ None) × (first_of (codes "policy") rows ≡ Some file.now)

abbrev pub IsOwn : List Row → OwnTexts → Type 0
IsOwn rows (own.Below folder) = first_of (codes "sources") rows ≡ Some folder.now
IsOwn rows own.Installed =
    (first_of (codes "sources") rows ≡ None) × (has rows (codes "installed") ≡ true)
IsOwn rows own.Left =
    (first_of (codes "sources") rows ≡ None) × (has rows (codes "installed") ≡ false)

abbrev pub page_format : Text → PageFormat
page_format name =
    if bytes_eq name (codes "markdown") then page.Markdown else
    if bytes_eq name (codes "html") then page.Html else
    if bytes_eq name (codes "json") then page.Json else
    page.Text

pub record IsNotice (rows : List Row) (r : NoticeRequest) : Type 0 where
  pub list : text r.list ≡ first_of (codes "list") rows
  pub accepted : IsAccepted rows r.accepted
  pub source : IsSource rows r.source
  pub texts_folder : text r.texts ≡ first_of (codes "texts") rows
  pub own : IsOwn rows r.own
  pub is_strict : r.is_strict ≡ has rows (codes "strict")
  pub follow : r.follow ≡ has rows (codes "follow")
  pub plain : r.plain ≡ has rows (codes "plain")
  pub one_for_all : r.one_for_all ≡ has rows (codes "one-for-all")
  pub exclude_own : r.exclude_own ≡ has rows (codes "exclude-own")
  pub format : r.format ≡ option_map_or page_format (first_of (codes "format") rows) page.Text
  pub paths : texts r.paths.items ≡ all_in rows (codes "PATH")

abbrev pub change_format : Text → ChangesFormat
change_format name =
    if bytes_eq name (codes "json") then change.Json else
    if bytes_eq name (codes "markdown") then change.Markdown else
    change.Text

pub record IsChanges (rows : List Row) (r : ChangesRequest) : Type 0 where
  pub list : text r.list ≡ first_of (codes "list") rows
  pub policy : text r.policy ≡ first_of (codes "policy") rows
  pub source : IsSource rows r.source
  pub format : r.format
      ≡ option_map_or change_format (first_of (codes "format") rows) change.Text
  pub allow_empty : r.allow_empty ≡ has rows (codes "allow-empty")
  pub exclude_own : r.exclude_own ≡ has rows (codes "exclude-own")
  pub tells_totals : r.tells_totals ≡ not (has rows (codes "no-summary"))
  pub old : Some r.old.now ≡ first_of (codes "OLD") rows
  pub new : Some r.new.now ≡ first_of (codes "NEW") rows

-- ---- the commands of `list`

pub record IsShow (rows : List Row) (r : ShowRequest) : Type 0 where
  pub list : text r.list ≡ first_of (codes "list") rows
  pub names : texts r.names.items ≡ all_in rows (codes "NAME")

pub record IsMake (rows : List Row) (r : MakeRequest) : Type 0 where
  pub licenses : Some r.licenses.now ≡ first_of (codes "LICENSES") rows
  pub exceptions : Some r.exceptions.now ≡ first_of (codes "EXCEPTIONS") rows
  pub extras : text r.extras ≡ first_of (codes "extras") rows

-- of one list alone it is the newer one
abbrev pub AreLists : Option Text → Option Text → DiffRequest → Type 0
AreLists first (Some new) r = (text r.old ≡ first) × (r.new.now ≡ new)
AreLists first None r = (text r.old ≡ None) × (Some r.new.now ≡ first)
