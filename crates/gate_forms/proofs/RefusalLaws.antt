-- What is told of packages is what their reports say.
use Rattle.std.proofs.Common.{◌≡◌, ℕ, Bool, true, false, ◌||◌, ◌&&◌, List, [], ◌∷◌, ◌++◌, map, refl, ap, ◌∙◌}
use Rattle.std.specs.Prelude.{bytes_eq, filter, not, if◌then◌else◌}
use Rattle.std.specs.List.{list_any}
use Rattle.finding_forms.specs.declared.forms.Style.{Style}
use Rattle.gate_forms.specs.declared.reports.Report.{Report}
use Rattle.gate_forms.specs.declared.text.refusals.Told.{Told}
use Rattle.gate_forms.specs.Report.{is_refused}
use Rattle.gate_forms.specs.Human.{refused_lines}
use Rattle.gate_forms.specs.Refusals.{told_text, is_same, also_line, refusal_text, refusals_from}
use Rattle.gate_forms.specs.Tellings.{report_of, words_of, is_alike, refusal_told, refusals_told}

-- each with what is told of its report
abbrev pub AreTold : Style → List Told → Type 0
AreTold style [] = Unit {0}
AreTold style (t ∷ ts) = (words_of t ≡ told_text style t.report) × AreTold style ts

heads : (a b : List ℕ) (cs ds : List (List ℕ)) → a ∷ cs ≡ b ∷ ds → a ≡ b
heads a b cs ds e = cc

tails : (a b : List ℕ) (cs ds : List (List ℕ)) → a ∷ cs ≡ b ∷ ds → cs ≡ ds
tails a b cs ds e = cc

pub told_from : (style : Style) (ts : List Told) → map words_of ts ≡ map (told_text style) (map report_of ts) → AreTold style ts
told_from style [] e = tt
told_from style (t ∷ ts) e = (
  heads (words_of t) (told_text style t.report) (map words_of ts) (map (told_text style) (map report_of ts)) e,
  told_from style ts (tails (words_of t) (told_text style t.report) (map words_of ts) (map (told_text style) (map report_of ts)) e),
)

told_more : (style : Style) (es : List Told) (t : Told) → AreTold style es → words_of t ≡ told_text style t.report → AreTold style (es ++ t ∷ [])
told_more style [] t all e = (e, tt)
told_more style (s ∷ es) t all e = (all.0, told_more style es t all.1 e)

same : (style : Style) (t s : Told) → words_of t ≡ told_text style t.report → words_of s ≡ told_text style s.report → is_alike t s ≡ is_same style t.report s.report
same style t s e f = ap (λ z. bytes_eq z (words_of t)) f ∙ ap (bytes_eq (told_text style s.report)) e

any_same : (style : Style) (t : Told) (es : List Told) → words_of t ≡ told_text style t.report → AreTold style es → list_any (is_alike t) es ≡ list_any (is_same style t.report) (map report_of es)
any_same style t [] e all = refl
any_same style t (s ∷ es) e all =
    ap (λ z. z || list_any (is_alike t) es) (same style t s e all.0)
    ∙ ap (λ z. is_same style t.report s.report || z) (any_same style t es e all.1)

picked : (b : Bool) (s : Told) (xs : List Told) (ys : List Report) → map report_of xs ≡ ys
    → map report_of (if b then s ∷ xs else xs) ≡ (if b then s.report ∷ ys else ys)
picked true s xs ys e = ap (λ z. s.report ∷ z) e
picked false s xs ys e = e

filter_same : (style : Style) (t : Told) (ts : List Told) → words_of t ≡ told_text style t.report → AreTold style ts
    → map report_of (filter (is_alike t) ts) ≡ filter (is_same style t.report) (map report_of ts)
filter_same style t [] e all = refl
filter_same style t (s ∷ ts) e all =
    picked (is_alike t s) s (filter (is_alike t) ts) (filter (is_same style t.report) (map report_of ts)) (filter_same style t ts e all.1)
    ∙ ap (λ b. if b then s.report ∷ filter (is_same style t.report) (map report_of ts) else filter (is_same style t.report) (map report_of ts)) (same style t s e all.0)

refusal_same : (style : Style) (es : List Told) (t : Told) (ts : List Told) → AreTold style es → words_of t ≡ told_text style t.report → AreTold style ts
    → refusal_told style es t ts ≡ refusal_text style (map report_of es) t.report (map report_of ts)
refusal_same style es t ts before e all =
    ap (λ b. if is_refused t.report.verdict && not b then refused_lines style t.report ++ also_line (map report_of (filter (is_alike t) ts)) else []) (any_same style t es e before)
    ∙ ap (λ rs. if is_refused t.report.verdict && not (list_any (is_same style t.report) (map report_of es)) then refused_lines style t.report ++ also_line rs else []) (filter_same style t ts e all)

map_more : (es : List Told) (t : Told) → map report_of (es ++ t ∷ []) ≡ map report_of es ++ t.report ∷ []
map_more [] t = refl
map_more (s ∷ es) t = ap (λ z. s.report ∷ z) (map_more es t)

pub refusals_same : (style : Style) (es ts : List Told) → AreTold style es → AreTold style ts → refusals_told style es ts ≡ refusals_from style (map report_of es) (map report_of ts)
refusals_same style es [] before all = refl
refusals_same style es (t ∷ ts) before all =
    ap (λ z. z ++ refusals_told style (es ++ t ∷ []) ts) (refusal_same style es t ts before all.0 all.1)
    ∙ ap (λ z. refusal_text style (map report_of es) t.report (map report_of ts) ++ z)
    (refusals_same style (es ++ t ∷ []) ts (told_more style es t before all.0) all.1 ∙ ap (λ z. refusals_from style z (map report_of ts)) (map_more es t))
