-- Verdicts as a page of HTML. How a text of others is put is a parameter, so that it can be said
-- what such texts add.
use Rattle.std.specs.Prelude.{ℕ, min, List, [], ◌∷◌, ◌++◌, Bool, nat_le, if◌then◌else◌, codes, decimal, flat_map}
use Rattle.foreign_text.specs.PageText.{is_mark}
use Rattle.foreign_text.specs.declared.sinks.Sink.TheVariants.{Line}
use Rattle.gate_forms.specs.declared.reports.Baseline.{Baseline}
use Rattle.gate_forms.specs.declared.reports.Baseline.TheVariants.{Absent, New, Known}
use Rattle.gate_forms.specs.declared.reports.Node.{Node}
use Rattle.gate_forms.specs.declared.reports.Verdict.{Verdict}
use Rattle.gate_forms.specs.declared.reports.Verdict.TheVariants.{Allowed, ByException, Refused, Unstated}
use Rattle.gate_forms.specs.declared.reports.Why.{Why}
use Rattle.gate_forms.specs.declared.reports.Why.TheVariants.{Nothing, Fault, Missing}
use Rattle.gate_forms.specs.declared.reports.Report.{Report}
use Rattle.gate_forms.specs.declared.reports.Totals.{Totals}
use Rattle.gate_forms.specs.Report.{advice_text, is_part_accepted, package_text, part_text, verdict_text}
use Rattle.gate_forms.specs.Totals.{totals_words}
use Rattle.gate_forms.specs.Top.{page_top}

-- markup, a text of others, and markup
abbrev pub element : (List ℕ → List ℕ) → List ℕ → List ℕ → List ℕ → List ℕ
element w before text after = before ++ (w text ++ after)

-- ---- a refused package

abbrev pub expression_part : (List ℕ → List ℕ) → List ℕ → List ℕ
expression_part w text = element w (codes "<pre>") text (codes "</pre>\n")

-- a sign besides the colour
abbrev pub sign_part : Bool → List ℕ
sign_part accepted =
    if accepted then codes "\" class=\"yes\"><b>+</b> " else codes "\" class=\"no\"><b>-</b> "

-- parts deeper than 24 are indented as those of 24, and their depth is told
abbrev pub depth_part : ℕ → List ℕ
depth_part depth = if nat_le depth 24 then [] else decimal depth ++ codes ": "

abbrev pub node_begins : Node → List ℕ
node_begins node =
    codes "<li style=\"--d:" ++
    (decimal (min node.depth 24) ++
    (sign_part (is_part_accepted node.part) ++ depth_part node.depth))

abbrev pub node_part : (List ℕ → List ℕ) → Node → List ℕ
node_part w node = node_begins node ++ (w (part_text Line node.part) ++ codes "</li>\n")

abbrev pub tree_part : (List ℕ → List ℕ) → List Node → List ℕ
tree_part w nodes =
    codes "<ul class=\"tree\">\n" ++ (flat_map (node_part w) nodes ++ codes "</ul>\n")

abbrev pub why_part : (List ℕ → List ℕ) → Why → List ℕ
why_part w Nothing = []
why_part w (Fault reason start end) =
    element w (codes "<p class=\"no\">") reason.now (codes "</p>\n")
why_part w (Missing leaves advice) =
    element w (codes "<p class=\"advice\">") (advice_text Line advice) (codes "</p>\n")

-- whether the refusal is known, where there is a baseline
abbrev pub news_part : Baseline → List ℕ
news_part Absent = []
news_part New = codes "<b>new</b>\n"
news_part Known = codes "<span class=\"file\">known</span>\n"

-- the package, its file, and the verdict
abbrev pub head_part : (List ℕ → List ℕ) → Report → List ℕ
head_part w r =
    element w (codes "<article>\n<h3>") (package_text Line r) (codes "</h3>\n") ++
    (news_part r.baseline ++
    (element w (codes "<p class=\"file\">") r.file.now (codes "</p>\n") ++
    element w (codes "<p class=\"no\"><b>-</b> ") (verdict_text Line r) (codes "</p>\n")))

abbrev pub refused_part : (List ℕ → List ℕ) → Report → List ℕ
refused_part w r =
    head_part w r ++ (expression_part w r.expression.now ++
    (tree_part w r.nodes.now ++ (why_part w r.why ++ codes "</article>\n")))

-- ---- other packages

abbrev pub item_sign : Bool → List ℕ
item_sign accepted =
    if accepted then codes "<li class=\"yes\"><b>+</b> " else codes "<li class=\"no\"><b>-</b> "

abbrev pub unstated_part : (List ℕ → List ℕ) → Bool → Report → List ℕ
unstated_part w allowed r =
    element w (item_sign allowed) (package_text Line r) (codes " ") ++
    (news_part r.baseline ++
    element w (codes "<span class=\"file\">") r.file.now (codes "</span></li>\n"))

abbrev pub allowed_part : (List ℕ → List ℕ) → Report → List ℕ
allowed_part w r =
    element w (codes "<li class=\"yes\"><b>+</b> ") (package_text Line r) (codes ": ") ++
    (element w [] r.expression.now (codes " ") ++
    element w (codes "<span class=\"file\">") (verdict_text Line r) (codes "</span></li>\n"))

-- ---- the page

-- a report where its section is the refused, the unstated, the allowed
abbrev pub in_refused : (List ℕ → List ℕ) → Report → Verdict → List ℕ
in_refused w r Allowed = []
in_refused w r ByException = []
in_refused w r Refused = refused_part w r
in_refused w r (Unstated allowed) = []

abbrev pub in_unstated : (List ℕ → List ℕ) → Report → Verdict → List ℕ
in_unstated w r Allowed = []
in_unstated w r ByException = []
in_unstated w r Refused = []
in_unstated w r (Unstated allowed) = unstated_part w allowed r

abbrev pub in_allowed : (List ℕ → List ℕ) → Report → Verdict → List ℕ
in_allowed w r Allowed = allowed_part w r
in_allowed w r ByException = allowed_part w r
in_allowed w r Refused = []
in_allowed w r (Unstated allowed) = []

abbrev pub refused_section : (List ℕ → List ℕ) → Totals → List Report → List ℕ
refused_section w totals reports =
    codes "<section>\n<h2>Refused: " ++ (decimal totals.refused ++ (codes "</h2>\n" ++
    (flat_map (λ r. in_refused w r r.verdict) reports ++ codes "</section>\n")))

abbrev pub unstated_section : (List ℕ → List ℕ) → Totals → List Report → List ℕ
unstated_section w totals reports =
    codes "<section>\n<h2>Without a licence: " ++
    (decimal totals.unstated ++ (codes "</h2>\n<ul>\n" ++
    (flat_map (λ r. in_unstated w r r.verdict) reports ++ codes "</ul>\n</section>\n")))

abbrev pub allowed_section : (List ℕ → List ℕ) → Totals → List Report → List ℕ
allowed_section w totals reports =
    codes "<details>\n<summary><h2>Allowed: " ++
    (decimal totals.allowed ++ (codes "</h2></summary>\n<ul>\n" ++
    (flat_map (λ r. in_allowed w r r.verdict) reports ++ codes "</ul>\n</details>\n")))

abbrev pub title_part : (List ℕ → List ℕ) → List ℕ → Totals → List ℕ
title_part w policy totals =
    element w (codes "<h1>Licences by ") policy (codes "</h1>\n") ++
    element w (codes "<p>") (totals_words totals) (codes "</p>\n")

-- the page, refused packages first
abbrev pub page_with : (List ℕ → List ℕ) → List ℕ → Totals → List Report → List ℕ
page_with w policy totals reports =
    page_top ++ (title_part w policy totals ++ (refused_section w totals reports ++
    (unstated_section w totals reports ++
    (allowed_section w totals reports ++ codes "</main>\n</body>\n</html>\n"))))

-- ---- what texts of others add

-- the bytes that begin or end a tag or a quoted value
abbrev pub marks : List ℕ → List ℕ
marks [] = []
marks (b ∷ bs) = if is_mark b then b ∷ marks bs else marks bs

abbrev pub left_out : List ℕ → List ℕ
left_out text = []
