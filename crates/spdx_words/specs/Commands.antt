-- The options of each command.
use Rattle.clap.specs.Simple.{App, Shape, new_shape}
use Rattle.clap.specs.Walk.{Rule, Text, texts}
use Rattle.spdx_words.specs.Options.{choice, command, flag, lettered, option, wanted, with_value}
use Rattle.spdx_words.specs.Options.{word, words}
use Rattle.std.specs.Borrow.{Bor}
use Rattle.std.specs.Prelude.{◌≡◌, true, false, List, [], ◌∷◌, ◌++◌, codes}

-- the names that an option's value is one of, as they lie in memory
abbrev pub Names : Type 0
Names = Bor (List (Bor Text))

-- such names, which are these
abbrev pub These : List Text → Type 0
These list = (names : Names) × (texts names.now ≡ list)

-- ---- what several commands have

abbrev pub list_option : Rule
list_option = option (codes "list")

abbrev pub paths : Rule
paths = words (codes "PATH")

abbrev pub lax : Rule
lax = flag (codes "lax")

abbrev pub quiet : Rule
quiet = lettered 113 (flag (codes "quiet"))

abbrev pub headers : Rule
headers = flag (codes "headers")

abbrev pub manifests : Rule
manifests = flag (codes "manifests")

abbrev pub form : Names → Rule
form forms = choice (codes "as") forms

-- where a JSON text of any shape has its packages
abbrev pub pointers : List Rule
pointers =
    option (codes "each") ∷ option (codes "name") ∷ option (codes "package-version")
    ∷ option (codes "license") ∷ []

-- what says what files of packages are, of these forms
abbrev pub sources : Names → List Rule
sources forms =
    flag (codes "exclude-own") ∷ choice (codes "from") forms ∷ flag (codes "header") ∷ pointers

-- ---- the commands over expressions

abbrev pub finding_formats : List Text
finding_formats =
    codes "human" ∷ codes "short" ∷ codes "json" ∷ codes "github" ∷ codes "sarif" ∷ []

abbrev pub manifest_forms : List Text
manifest_forms =
    codes "cargo" ∷ codes "npm" ∷ codes "bower" ∷ codes "jsr" ∷ codes "vcpkg" ∷ codes "elm" ∷
    codes "composer" ∷ codes "pyproject" ∷ codes "reuse" ∷ codes "metadata" ∷ codes "setup-cfg" ∷
    codes "setup-py" ∷ codes "cabal" ∷ codes "opam" ∷ codes "gem" ∷ codes "mix" ∷
    codes "rockspec" ∷ codes "meson" ∷ codes "rpm" ∷ codes "alpine" ∷ codes "arch" ∷
    codes "snap" ∷ codes "conda" ∷ codes "galaxy" ∷ codes "helm" ∷ codes "citation" ∷
    codes "docker" ∷ codes "dep5" ∷ codes "appstream" ∷ codes "nuget" ∷ codes "msbuild" ∷
    codes "ros" ∷ []

-- of these formats of findings, and these forms of manifests
abbrev pub check_options : Names → Names → List Rule
check_options formats forms =
    with_value (codes "human") (choice (codes "format") formats)
    ∷ flag (codes "strict") ∷ lax
    ∷ headers ∷ manifests ∷ form forms
    ∷ option (codes "texts") ∷ flag (codes "untagged")
    ∷ list_option ∷ quiet ∷ flag (codes "no-summary") ∷ paths ∷ []

abbrev pub fix_options : Names → List Rule
fix_options forms =
    flag (codes "write") ∷ flag (codes "break-links")
    ∷ headers ∷ manifests ∷ form forms ∷ list_option ∷ paths ∷ []

abbrev pub compare_options : List Rule
compare_options =
    lax ∷ list_option ∷ wanted (word (codes "ONE")) ∷ wanted (word (codes "OTHER")) ∷ []

abbrev pub simplify_options : List Rule
simplify_options = lax ∷ list_option ∷ paths ∷ []

-- ---- the commands over packages

abbrev pub gate_formats : List Text
gate_formats =
    codes "human" ∷ codes "short" ∷ codes "json" ∷ codes "github" ∷ codes "sarif" ∷ codes "html"
    ∷ []

-- which verdicts fail, and what is told beside them
abbrev pub verdicts : List Rule
verdicts =
    option (codes "baseline") ∷ option (codes "explain") ∷ quiet ∷ flag (codes "allow-empty")
    ∷ flag (codes "no-unused") ∷ []

-- of these formats of verdicts, and these forms of packages
abbrev pub gate_options : Names → Names → List Rule
gate_options formats forms =
    (wanted (option (codes "policy"))
    ∷ with_value (codes "human") (choice (codes "format") formats) ∷ [])
    ++ verdicts ++ sources forms ++ list_option ∷ paths ∷ []

abbrev pub page_formats : List Text
page_formats = codes "text" ∷ codes "markdown" ∷ codes "html" ∷ codes "json" ∷ []

-- which texts stand on a page
abbrev pub page_texts : List Rule
page_texts =
    option (codes "texts") ∷ flag (codes "without-texts")
    ∷ option (codes "sources") ∷ flag (codes "installed")
    ∷ flag (codes "strict") ∷ flag (codes "follow") ∷ []

-- what else a page is made by
abbrev pub page : Names → Names → List Rule
page formats forms =
    (flag (codes "plain") ∷ lax ∷ flag (codes "one-for-all")
    ∷ with_value (codes "text") (choice (codes "format") formats) ∷ [])
    ++ sources forms ++ list_option ∷ paths ∷ []

abbrev pub notice_options : Names → Names → List Rule
notice_options formats forms =
    (option (codes "accept") ∷ option (codes "policy") ∷ [])
    ++ page_texts ++ page formats forms

abbrev pub change_formats : List Text
change_formats = codes "text" ∷ codes "json" ∷ codes "markdown" ∷ []

abbrev pub diff_options : Names → Names → List Rule
diff_options formats forms =
    (with_value (codes "text") (choice (codes "format") formats) ∷ option (codes "policy")
    ∷ flag (codes "allow-empty") ∷ flag (codes "no-summary") ∷ [])
    ++ sources forms
    ++ list_option ∷ wanted (word (codes "OLD")) ∷ wanted (word (codes "NEW")) ∷ []

abbrev pub source_forms : List Text
source_forms =
    codes "auto" ∷ codes "lines" ∷ codes "tsv" ∷ codes "csv" ∷ codes "verdicts" ∷ codes "cargo"
    ∷ codes "npm" ∷ codes "composer" ∷ codes "pip" ∷ codes "cyclonedx" ∷ codes "spdx"
    ∷ codes "spdx-3" ∷ codes "license-checker" ∷ codes "pnpm" ∷ codes "metadata" ∷ []

-- ---- the commands of `list`

abbrev pub show_options : List Rule
show_options = list_option ∷ words (codes "NAME") ∷ []

abbrev pub make_options : List Rule
make_options =
    wanted (word (codes "LICENSES")) ∷ wanted (word (codes "EXCEPTIONS"))
    ∷ option (codes "extras") ∷ []

abbrev pub differ_options : List Rule
differ_options = wanted (word (codes "OLD")) ∷ word (codes "NEW") ∷ []

-- ---- what has commands

abbrev pub having : Shape → List Shape → App
having top subs = record { top = record top { is_leaf = false }; subs = subs }

abbrev pub wanting : Text → Shape
wanting name = record (new_shape name) {
  subcommand_required = true;
  arg_required_else_help = true;
}

-- `spdx`, with one of its commands
abbrev pub spdx_alone : Shape
spdx_alone = record (wanting (codes "spdx")) { has_version = true }

abbrev pub spdx : Shape → App
spdx named = having spdx_alone (named ∷ [])

-- `spdx list`
abbrev pub spdx_list : App
spdx_list = having (wanting (codes "list"))
    (command (codes "show") show_options ∷ command (codes "make") make_options
    ∷ command (codes "diff") differ_options ∷ [])
