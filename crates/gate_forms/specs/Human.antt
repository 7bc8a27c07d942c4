-- A package as people read it.
use Rattle.std.specs.Prelude.{ℕ, ◌+◌, ◌*◌, ◌-◌, max, min, List, [], ◌∷◌, ◌++◌, Bool, false, nat_le, if◌then◌else◌, chars, codes, decimal, flat_map, length, replicate, slice_range, take}
use Rattle.unicode_width.specs.Width.{str_width}
use Rattle.finding_forms.specs.declared.forms.Style.{Style}
use Rattle.finding_forms.specs.Finding.{place_in}
use Rattle.finding_forms.specs.Excerpt.{carets_under, excerpt_line}
use Rattle.finding_forms.specs.Paint.{bold, red, painted}
use Rattle.foreign_text.specs.declared.sinks.Sink.TheVariants.{Line}
use Rattle.gate_forms.specs.declared.reports.Advice.{Advice}
use Rattle.gate_forms.specs.declared.reports.Leaf.{Leaf}
use Rattle.gate_forms.specs.declared.reports.Node.{Node}
use Rattle.gate_forms.specs.declared.reports.Why.{Why}
use Rattle.gate_forms.specs.declared.reports.Why.TheVariants.{Nothing, Fault, Missing}
use Rattle.gate_forms.specs.declared.reports.Report.{Report}
use Rattle.foreign_text.specs.Written.{text_for}
use Rattle.gate_forms.specs.Report.{advice_text, is_part_accepted, is_refused, leaf_decided, package_text, part_text, verdict_text}

-- ---- carets

-- the text up to a part of it, and the part
abbrev pub before_of : List ℕ → ℕ → List ℕ
before_of text start = take (place_in text start) text

abbrev pub marked_of : List ℕ → ℕ → ℕ → List ℕ
marked_of text start end =
    slice_range text (place_in text start) (max (place_in text start) (place_in text end))

-- how many columns of a terminal a text takes as it is shown
abbrev pub shown_width : List ℕ → ℕ
shown_width text = str_width false (chars (text_for Line text))

-- carets under the part, one at least; the expression above stands two columns in
abbrev pub caret_part : Style → List ℕ → ℕ → ℕ → List ℕ
caret_part style text start end =
    codes "  " ++ (replicate (shown_width (before_of text start)) 32 ++
    (painted style red (replicate (max 1 (shown_width (marked_of text start end))) 94) ++ 32 ∷ []))

-- ---- a refused package

abbrev pub package_line : Style → Report → List ℕ
package_line style r =
    painted style bold (package_text Line r) ++ (codes ": " ++ (verdict_text Line r ++ 10 ∷ []))

abbrev pub head_line : Style → Report → List ℕ
head_line style r = painted style red (codes "error") ++ (codes ": " ++ package_line style r)

abbrev pub whole_line : List ℕ → List ℕ
whole_line text = codes "  " ++ (text_for Line text ++ 10 ∷ [])

-- a text with a fault is shown round it; of another all is shown
abbrev pub shown_line : List ℕ → Why → List ℕ
shown_line text Nothing = whole_line text
shown_line text (Fault reason start end) = excerpt_line text start
shown_line text (Missing leaves advice) = whole_line text

abbrev pub expression_line : List ℕ → Why → List ℕ
expression_line [] why = []
expression_line (b ∷ bs) why = shown_line (b ∷ bs) why

-- carets under what is shown of the fault, and the reason
abbrev pub fault_line : Style → List ℕ → List ℕ → ℕ → ℕ → List ℕ
fault_line style text reason start end =
    carets_under style text start end ++ (32 ∷ (text_for Line reason ++ 10 ∷ []))

abbrev pub leaf_line : Style → List ℕ → Leaf → List ℕ
leaf_line style text leaf =
    caret_part style text leaf.start leaf.end ++ (leaf_decided Line leaf ++ 10 ∷ [])

-- how many more there are than twenty
abbrev pub more_line : ℕ → List ℕ
more_line n = if nat_le n 20 then [] else codes "  and " ++ (decimal (n - 20) ++ codes " more\n")

abbrev pub leaf_lines : Style → List ℕ → List Leaf → List ℕ
leaf_lines style text leaves =
    flat_map (leaf_line style text) (take 20 leaves) ++ more_line (length leaves)

abbrev pub advice_line : Advice → List ℕ
advice_line advice = codes "  " ++ (advice_text Line advice ++ 10 ∷ [])

abbrev pub why_lines : Style → List ℕ → Why → List ℕ
why_lines style text Nothing = []
why_lines style text (Fault reason start end) = fault_line style text reason.now start end
why_lines style text (Missing leaves advice) =
    leaf_lines style text leaves.now ++ advice_line advice

abbrev pub reasons_text : Style → Report → List ℕ
reasons_text style r =
    expression_line r.expression.now r.why ++ why_lines style r.expression.now r.why

abbrev pub refused_lines : Style → Report → List ℕ
refused_lines style r = head_line style r ++ reasons_text style r

abbrev pub human_text : Style → Report → List ℕ
human_text style r = if is_refused r.verdict then refused_lines style r else []

-- ---- a package explained

abbrev pub green : List ℕ
green = codes "[1;32m"

abbrev pub sign : Style → Bool → List ℕ
sign style accepted =
    if accepted then painted style green (codes "+") else painted style red (codes "-")

-- two blanks for each part that it stands in; deeper than 24, the number of them
abbrev pub indent : ℕ → List ℕ
indent depth =
    replicate (2 + 2 * min depth 24) 32 ++
    (if nat_le depth 24 then [] else decimal depth ++ codes ": ")

abbrev pub node_line : Style → Node → List ℕ
node_line style node =
    indent node.depth ++
    (sign style (is_part_accepted node.part) ++ (32 ∷ (part_text Line node.part ++ 10 ∷ [])))

abbrev pub closing_lines : Style → List ℕ → Why → List ℕ
closing_lines style text Nothing = []
closing_lines style text (Fault reason start end) = fault_line style text reason.now start end
closing_lines style text (Missing leaves advice) = advice_line advice

abbrev pub closing_text : Style → Report → List ℕ
closing_text style r = closing_lines style r.expression.now r.why

abbrev pub explained_text : Style → Report → List ℕ
explained_text style r =
    package_line style r ++
    (expression_line r.expression.now r.why ++
    (flat_map (node_line style) r.nodes.now ++ closing_text style r))
