-- Which words are refused although each is one that its command has: options that exclude one another, and
-- what wants another one.
use Rattle.clap.specs.Walk.{Row}
use Rattle.std.specs.Prelude.{Bool, true, false, not, ◌&&◌, ◌||◌, List, Option, Some, codes}
use Rattle.spdx_words.specs.Options.{has, says}
use Rattle.spdx_words.specs.Said.{form_in, gate_format_in}
use Rattle.spdx_words.specs.declared.packages.request.GateFormat.{GateFormat}
use Rattle.spdx_words.specs.declared.packages.request.GateFormat.TheVariants as verdict
use Rattle.spdx_words.specs.declared.packages.request.SourceForm.{SourceForm}
use Rattle.spdx_words.specs.declared.packages.request.SourceForm.TheVariants as form

-- ---- the commands over expressions

-- which of a file's expressions are taken
abbrev pub wanted_unfit : List Row → Bool
wanted_unfit rows =
    (has rows (codes "headers") && has rows (codes "manifests"))
    || ((has rows (codes "headers") && says rows (codes "as"))
    || (has rows (codes "manifests") && says rows (codes "as")))

abbrev pub check_unfit : List Row → Bool
check_unfit rows =
    (has rows (codes "strict") && has rows (codes "lax")) || wanted_unfit rows

-- links are to be broken, though no file is to be written
abbrev pub breaks_nothing : List Row → Bool
breaks_nothing rows = has rows (codes "break-links") && not (has rows (codes "write"))

abbrev pub fix_unfit : List Row → Bool
fix_unfit rows = wanted_unfit rows || breaks_nothing rows

abbrev pub compare_unfit : List Row → Bool
compare_unfit rows = not (says rows (codes "ONE")) || not (says rows (codes "OTHER"))

-- ---- the commands over packages

-- the pointers from a package
abbrev pub has_pointers : List Row → Bool
has_pointers rows =
    says rows (codes "name")
    || (says rows (codes "package-version") || says rows (codes "license"))

abbrev pub has_columns : Option SourceForm → Bool
has_columns (Some (form.Tsv header)) = true
has_columns (Some (form.Csv header)) = true
has_columns _ = false

-- the first row names columns, and there are none
abbrev pub has_no_columns : List Row → Bool
has_no_columns rows = has rows (codes "header") && not (has_columns (form_in rows))

-- what the files are
abbrev pub source_unfit : List Row → Bool
source_unfit rows =
    (says rows (codes "each") && says rows (codes "from"))
    || (not (says rows (codes "each")) && (has_pointers rows || has_no_columns rows))

abbrev pub is_for_people : GateFormat → Bool
is_for_people verdict.Human = true
is_for_people _ = false

-- a package is explained to people alone
abbrev pub explain_unfit : List Row → Bool
explain_unfit rows = says rows (codes "explain") && not (is_for_people (gate_format_in rows))

abbrev pub judged_unfit : List Row → Bool
judged_unfit rows = source_unfit rows || explain_unfit rows

abbrev pub gate_unfit : List Row → Bool
gate_unfit rows = judged_unfit rows || not (says rows (codes "policy"))

abbrev pub files_unfit : List Row → Bool
files_unfit rows = not (says rows (codes "OLD")) || not (says rows (codes "NEW"))

abbrev pub changes_unfit : List Row → Bool
changes_unfit rows = source_unfit rows || files_unfit rows

-- packages have texts of their own
abbrev pub has_own : List Row → Bool
has_own rows = says rows (codes "sources") || has rows (codes "installed")

abbrev pub has_texts : List Row → Bool
has_texts rows = says rows (codes "texts") || has_own rows

-- which texts stand on a page
abbrev pub texts_unfit : List Row → Bool
texts_unfit rows =
    (says rows (codes "sources") && has rows (codes "installed"))
    || ((has rows (codes "without-texts") && has_texts rows)
    || ((not (has rows (codes "without-texts")) && not (has_texts rows))
    || (has rows (codes "strict") && not (has_own rows))))

-- what may be chosen
abbrev pub accepted_missing : List Row → Bool
accepted_missing rows = not (says rows (codes "accept")) && not (says rows (codes "policy"))

abbrev pub accepted_unfit : List Row → Bool
accepted_unfit rows =
    (says rows (codes "accept") && says rows (codes "policy")) || accepted_missing rows

abbrev pub notice_unfit : List Row → Bool
notice_unfit rows = source_unfit rows || (texts_unfit rows || accepted_unfit rows)

-- ---- the commands of `list`

abbrev pub make_unfit : List Row → Bool
make_unfit rows = not (says rows (codes "LICENSES")) || not (says rows (codes "EXCEPTIONS"))

abbrev pub differ_unfit : List Row → Bool
differ_unfit rows = not (says rows (codes "OLD"))
