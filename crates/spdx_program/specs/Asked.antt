-- What a request asks of its command.
use Rattle.std.specs.Prelude.{◌≡◌, ℕ, Bool, true, List, [], ◌∷◌, codes, map, if◌then◌else◌}
use Rattle.std.specs.Borrow.{Bor}
use Rattle.check_program.specs.declared.run.Request as check
use Rattle.finding_forms.specs.declared.forms.Format as findings
use Rattle.finding_forms.specs.declared.forms.Format.TheVariants as finding
use Rattle.finding_forms.specs.declared.forms.Style.{Style}
use Rattle.finding_forms.specs.declared.forms.Style.TheVariants as style
use Rattle.fix_program.specs.declared.run.Request as fix
use Rattle.gate_told.specs.declared.forms.Format as verdicts
use Rattle.gate_told.specs.declared.forms.Format.TheVariants as verdict
use Rattle.list_program.specs.declared.made.MadeOf.{MadeOf}
use Rattle.list_told.specs.declared.differing.Lists.{Lists}
use Rattle.list_told.specs.declared.shown.NameQuery.{NameQuery}
use Rattle.meaning_program.specs.Reading.{mode_by}
use Rattle.meaning_program.specs.declared.compared.TextPair.{TextPair}
use Rattle.meaning_program.specs.declared.files.Request as simplified
use Rattle.notice_forms.specs.declared.pages.Format as pages
use Rattle.notice_forms.specs.declared.pages.Format.TheVariants as page
use Rattle.notice_program.specs.declared.end.Request as notice
use Rattle.owed_texts.specs.declared.home.OwnTexts as owned
use Rattle.owed_texts.specs.declared.home.OwnTexts.TheVariants as own
use Rattle.package_changes.specs.declared.forms.Format as differences
use Rattle.package_changes.specs.declared.forms.Format.TheVariants as difference
use Rattle.package_commands.specs.declared.differences.DiffTask.{DiffTask}
use Rattle.package_commands.specs.declared.gated.GateTask.{GateTask}
use Rattle.package_files.specs.declared.listed.Source as listed
use Rattle.package_files.specs.declared.listed.Source.TheVariants as source
use Rattle.package_files.specs.declared.listed.Wanted as packages
use Rattle.package_sources.specs.declared.form.Form.{Form}
use Rattle.package_sources.specs.declared.form.Form.TheVariants as form
use Rattle.choice_program.specs.declared.acceptance.Accepted.{Accepted}
use Rattle.choice_program.specs.declared.acceptance.Accepted.TheVariants as accepted
use Rattle.source_trees.specs.declared.reading.Wanted as trees
use Rattle.source_trees.specs.declared.reading.Wanted.TheVariants as wanted
use Rattle.spdx_words.specs.declared.packages.request.Accepted as said_accepted
use Rattle.spdx_words.specs.declared.packages.request.Accepted.TheVariants as say_accepted
use Rattle.spdx_words.specs.declared.packages.request.ChangesFormat.{ChangesFormat}
use Rattle.spdx_words.specs.declared.packages.request.ChangesFormat.TheVariants as say_changes
use Rattle.spdx_words.specs.declared.packages.request.ChangesRequest.{ChangesRequest}
use Rattle.spdx_words.specs.declared.packages.request.GateFormat.{GateFormat}
use Rattle.spdx_words.specs.declared.packages.request.GateFormat.TheVariants as say_verdict
use Rattle.spdx_words.specs.declared.packages.request.GateRequest.{GateRequest}
use Rattle.spdx_words.specs.declared.packages.request.NoticeRequest.{NoticeRequest}
use Rattle.spdx_words.specs.declared.packages.request.OwnTexts as said_own
use Rattle.spdx_words.specs.declared.packages.request.OwnTexts.TheVariants as say_own
use Rattle.spdx_words.specs.declared.packages.request.PageFormat.{PageFormat}
use Rattle.spdx_words.specs.declared.packages.request.PageFormat.TheVariants as say_page
use Rattle.spdx_words.specs.declared.packages.request.Source as said_source
use Rattle.spdx_words.specs.declared.packages.request.Source.TheVariants as say_source
use Rattle.spdx_words.specs.declared.packages.request.SourceForm.{SourceForm}
use Rattle.spdx_words.specs.declared.packages.request.SourceForm.TheVariants as say_form
use Rattle.spdx_words.specs.declared.request.CheckRequest.{CheckRequest}
use Rattle.spdx_words.specs.declared.request.CompareRequest.{CompareRequest}
use Rattle.spdx_words.specs.declared.request.DiffRequest.{DiffRequest}
use Rattle.spdx_words.specs.declared.request.FindingFormat.{FindingFormat}
use Rattle.spdx_words.specs.declared.request.FindingFormat.TheVariants as say_finding
use Rattle.spdx_words.specs.declared.request.FixRequest.{FixRequest}
use Rattle.spdx_words.specs.declared.request.MakeRequest.{MakeRequest}
use Rattle.spdx_words.specs.declared.request.ShowRequest.{ShowRequest}
use Rattle.spdx_words.specs.declared.request.SimplifyRequest.{SimplifyRequest}
use Rattle.spdx_words.specs.declared.request.Wanted as said_wanted
use Rattle.spdx_words.specs.declared.request.Wanted.TheVariants as say_wanted

-- ---- paths

abbrev pub text_in : Bor (List ℕ) → List ℕ
text_in text = text.now

-- no paths are standard input
abbrev pub paths_by : List (List ℕ) → List (List ℕ)
paths_by [] = codes "-" ∷ []
paths_by (path ∷ paths) = path ∷ paths

abbrev pub ArePaths : List (Bor (List ℕ)) → Bor (List (Bor (List ℕ))) → Type 0
ArePaths named paths = map text_in paths.now ≡ paths_by (map text_in named)

-- this is asked of these paths
abbrev pub IsAskedOf : {Asked : Type 0} → List (Bor (List ℕ)) → (Bor (List (Bor (List ℕ))) → Asked) →
    Asked → Type 0
IsAskedOf named asked_of asked =
    (paths : Bor (List (Bor (List ℕ)))) × ArePaths named paths × (asked ≡ asked_of paths)

-- ---- which expressions, and how they are read and told

abbrev pub wanted_by : said_wanted.Wanted → trees.Wanted
wanted_by say_wanted.ByName = wanted.ByName
wanted_by say_wanted.Headers = wanted.Headers
wanted_by say_wanted.Manifests = wanted.Manifests
wanted_by (say_wanted.Form word) = wanted.Form word

abbrev pub style_by : Bool → Style
style_by colours = if colours then style.Coloured else style.Plain

abbrev pub finding_by : FindingFormat → Style → findings.Format
finding_by say_finding.Human how = finding.Human how
finding_by say_finding.Short how = finding.Short
finding_by say_finding.Json how = finding.Json
finding_by say_finding.Github how = finding.Github
finding_by say_finding.Sarif how = finding.Sarif

abbrev pub check_of : CheckRequest → Bool → Bor (List (Bor (List ℕ))) → check.Request
check_of r colours paths =
    record {
      list = r.list;
      mode = mode_by r.is_lax;
      format = finding_by r.format (style_by colours);
      wanted = wanted_by r.wanted;
      texts = r.texts;
      untagged = r.untagged;
      summary = r.summary;
      paths = paths;
    }

abbrev pub fix_of : FixRequest → Bor (List (Bor (List ℕ))) → fix.Request
fix_of r paths =
    record {
      list = r.list;
      wanted = wanted_by r.wanted;
      is_written = r.write;
      breaks_links = r.break_links;
      paths = paths;
    }

abbrev pub compare_of : CompareRequest → TextPair
compare_of r = record { list = r.list; is_lax = r.is_lax; one = r.one; other = r.other }

abbrev pub simplify_of : SimplifyRequest → Bor (List (Bor (List ℕ))) → simplified.Request
simplify_of r paths = record { list = r.list; is_lax = r.is_lax; paths = paths }

-- ---- lists

-- all names of the list, where none is named
pub record IsShowAsked (r : ShowRequest) (asked : NameQuery) : Type 0 where
  pub list_is : asked.list ≡ r.list
  pub names_are : asked.names.now ≡ r.names.items

abbrev pub make_of : MakeRequest → MadeOf
make_of r =
    record {
      licenses = r.licenses;
      exceptions = r.exceptions;
      extras = r.extras;
    }

abbrev pub lists_of : DiffRequest → Lists
lists_of r = record { old = r.old; new = r.new }

-- ---- packages

abbrev pub form_by : SourceForm → Form
form_by say_form.Lines = form.Lines
form_by (say_form.Tsv header) = form.Tsv header
form_by (say_form.Csv header) = form.Csv header
form_by say_form.Verdicts = form.Verdicts
form_by say_form.Cargo = form.Cargo
form_by say_form.Npm = form.Npm
form_by say_form.Composer = form.Composer
form_by say_form.Pip = form.Pip
form_by say_form.CycloneDx = form.CycloneDx
form_by say_form.Spdx = form.Spdx
form_by say_form.SpdxThree = form.SpdxThree
form_by say_form.LicenseChecker = form.LicenseChecker
form_by say_form.Pnpm = form.Pnpm
form_by say_form.Metadata = form.Metadata

abbrev pub source_by : said_source.Source → listed.Source
source_by say_source.Auto = source.Auto
source_by (say_source.Named f) = source.Named (form_by f)
source_by (say_source.At each name version license) =
    source.At (record { each = each; name = name; version = version; license = license })

abbrev pub packages_by : said_source.Source → Bool → Bool → packages.Wanted
packages_by how allow_empty exclude_own =
    record {
      source = source_by how;
      allow_empty = allow_empty;
      exclude_own = exclude_own;
    }

-- a log tells the version
abbrev pub verdict_by : GateFormat → Style → Bor (List ℕ) → verdicts.Format
verdict_by say_verdict.Human how version = verdict.Human how
verdict_by say_verdict.Short how version = verdict.Short
verdict_by say_verdict.Json how version = verdict.Json
verdict_by say_verdict.Github how version = verdict.Github
verdict_by say_verdict.Sarif how version = verdict.Sarif version
verdict_by say_verdict.Html how version = verdict.Html

abbrev pub gate_of : GateRequest → Bool → Bor (List ℕ) → Bor (List (Bor (List ℕ))) → GateTask
gate_of r colours version paths =
    record {
      run = record {
        list = r.list;
        policy = r.policy;
        wanted = packages_by r.source r.allow_empty r.exclude_own;
        paths = paths;
        baseline = r.baseline;
        look = record {
          format = verdict_by r.format (style_by colours) version;
          style = style_by colours;
          explain = r.explain;
          tells_unused = r.tells_unused;
        };
      };
      is_quiet = r.quiet;
    }

abbrev pub difference_by : ChangesFormat → differences.Format
difference_by say_changes.Text = difference.Text
difference_by say_changes.Json = difference.Json
difference_by say_changes.Markdown = difference.Markdown

abbrev pub changes_of : ChangesRequest → DiffTask
changes_of r =
    record {
      run = record {
        list = r.list;
        policy = r.policy;
        wanted = packages_by r.source r.allow_empty r.exclude_own;
        old = r.old;
        new = r.new;
        format = difference_by r.format;
      };
      tells_totals = r.tells_totals;
    }

abbrev pub accepted_by : said_accepted.Accepted → Accepted
accepted_by (say_accepted.List list is_lax) = accepted.List list (mode_by is_lax)
accepted_by (say_accepted.Policy path) = accepted.Policy path

abbrev pub own_by : said_own.OwnTexts → owned.OwnTexts
own_by say_own.Left = own.Left
own_by (say_own.Below folder) = own.Below folder
own_by say_own.Installed = own.Installed

abbrev pub page_by : PageFormat → pages.Format
page_by say_page.Text = page.Text
page_by say_page.Markdown = page.Markdown
page_by say_page.Html = page.Html
page_by say_page.Json = page.Json

-- a file that lists no package passes
abbrev pub notice_of : NoticeRequest → Bor (List (Bor (List ℕ))) → notice.Request
notice_of r paths =
    record {
      list = r.list;
      wanted = packages_by r.source true r.exclude_own;
      paths = paths;
      accepted = accepted_by r.accepted;
      one_for_all = r.one_for_all;
      folders = record {
        texts = r.texts;
        own = own_by r.own;
        follow = r.follow;
      };
      plain = r.plain;
      format = page_by r.format;
      is_strict = r.is_strict;
    }
