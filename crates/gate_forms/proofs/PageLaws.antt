-- What texts of others add to the page is no markup.
use Rattle.std.proofs.Common.{◌≡◌, ◌≢◌, ℕ, List, [], ◌∷◌, ◌++◌, Bool, true, false, cond, codes, decimal, flat_map, refl, sym, ap, ◌∙◌, append_assoc, arith}
use Rattle.std.proofs.lemmas.Bool.Decides.{nat_tests}
use Rattle.foreign_text.specs.PageText.{HasNoMarkup, is_mark, page_text}
use Rattle.foreign_text.proofs.PageLaws.{no_markup}
use Rattle.foreign_text.specs.declared.sinks.Sink.TheVariants.{Line}
use Rattle.gate_forms.specs.declared.reports.Node.{Node}
use Rattle.gate_forms.specs.declared.reports.Verdict.{Verdict}
use Rattle.gate_forms.specs.declared.reports.Verdict.TheVariants.{Allowed, ByException, Refused, Unstated}
use Rattle.gate_forms.specs.declared.reports.Why.{Why}
use Rattle.gate_forms.specs.declared.reports.Why.TheVariants.{Nothing, Fault, Missing}
use Rattle.gate_forms.specs.declared.reports.Report.{Report}
use Rattle.gate_forms.specs.declared.reports.Totals.{Totals}
use Rattle.gate_forms.specs.Report.{advice_text, package_text, part_text, verdict_text}
use Rattle.gate_forms.specs.Totals.{totals_words}
use Rattle.gate_forms.specs.Top.{page_top}
use Rattle.gate_forms.specs.Page.{element, node_begins, node_part, tree_part, why_part, news_part, head_part, refused_part, item_sign, unstated_part, allowed_part, in_refused, in_unstated, in_allowed, refused_section, unstated_section, allowed_section, title_part, page_with, marks, left_out}

-- the two have the same marks
record Same (xs ys : List ℕ) : Type 0 where
  pub is : marks xs ≡ marks ys

kept : (b : Bool) (x : ℕ) (rest ys : List ℕ) → cond b (x ∷ rest) rest ++ ys ≡ cond b (x ∷ (rest ++ ys)) (rest ++ ys)
kept true x rest ys = refl
kept false x rest ys = refl

marks-append : (xs ys : List ℕ) → marks (xs ++ ys) ≡ marks xs ++ marks ys
marks-append [] ys = refl
marks-append (x ∷ xs) ys =
    ap (λ (t : List ℕ). cond (is_mark x) (x ∷ t) t) (marks-append xs ys) ∙ sym (kept (is_mark x) x (marks xs) (marks ys))

equal : (xs : List ℕ) → Same xs xs
equal xs = record { is = refl }

both : {xs ys xs' ys' : List ℕ} → Same xs xs' → Same ys ys' → Same (xs ++ ys) (xs' ++ ys')
both {xs = xs} {ys = ys} {xs' = xs'} {ys' = ys'} h k = record { is = rw (marks-append xs ys, marks-append xs' ys', h.is, k.is) refl }

unmarked : (b : ℕ) → b ≢ 60 → b ≢ 62 → b ≢ 34 → b ≢ 39 → is_mark b ≡ false
unmarked b = grind (arith, nat_tests)

none : (bs : List ℕ) → HasNoMarkup bs → marks bs ≡ []
none [] h = refl
none (b ∷ bs) h = rw (unmarked b h.0.0 h.0.1 h.0.2 h.0.3, none bs h.1) refl

text : (s : List ℕ) → Same (page_text s) (left_out s)
text s = record { is = none (page_text s) (no_markup s) }

an_element : (before s after : List ℕ) → Same (element page_text before s after) (element left_out before s after)
an_element before s after = both (equal before) (both (text s) (equal after))

each : {X : Type 0} (f g : X → List ℕ) → ((x : X) → Same (f x) (g x)) → (xs : List X) → Same (flat_map f xs) (flat_map g xs)
each f g h [] = equal []
each f g h (x ∷ xs) = both (h x) (each f g h xs)

-- ---- a refused package

a_node : (node : Node) → Same (node_part page_text node) (node_part left_out node)
a_node node = an_element (node_begins node) (part_text Line node.part) (codes "</li>\n")

a_tree : (nodes : List Node) → Same (tree_part page_text nodes) (tree_part left_out nodes)
a_tree nodes = both (equal (codes "<ul class=\"tree\">\n")) (both (each (node_part page_text) (node_part left_out) a_node nodes) (equal (codes "</ul>\n")))

a_why : (why : Why) → Same (why_part page_text why) (why_part left_out why)
a_why Nothing = equal []
a_why (Fault reason start end) = an_element (codes "<p class=\"no\">") reason.now (codes "</p>\n")
a_why (Missing leaves advice) = an_element (codes "<p class=\"advice\">") (advice_text Line advice) (codes "</p>\n")

a_head : (r : Report) → Same (head_part page_text r) (head_part left_out r)
a_head r =
    both (an_element (codes "<article>\n<h3>") (package_text Line r) (codes "</h3>\n"))
    (both (equal (news_part r.baseline))
    (both (an_element (codes "<p class=\"file\">") r.file.now (codes "</p>\n"))
    (an_element (codes "<p class=\"no\"><b>-</b> ") (verdict_text Line r) (codes "</p>\n"))))

a_refused : (r : Report) → Same (refused_part page_text r) (refused_part left_out r)
a_refused r =
    both (a_head r)
    (both (an_element (codes "<pre>") r.expression.now (codes "</pre>\n"))
    (both (a_tree r.nodes.now) (both (a_why r.why) (equal (codes "</article>\n")))))

-- ---- other packages

an_unstated : (allowed : Bool) (r : Report) → Same (unstated_part page_text allowed r) (unstated_part left_out allowed r)
an_unstated allowed r =
    both (an_element (item_sign allowed) (package_text Line r) (codes " "))
    (both (equal (news_part r.baseline)) (an_element (codes "<span class=\"file\">") r.file.now (codes "</span></li>\n")))

an_allowed : (r : Report) → Same (allowed_part page_text r) (allowed_part left_out r)
an_allowed r =
    both (an_element (codes "<li class=\"yes\"><b>+</b> ") (package_text Line r) (codes ": "))
    (both (an_element [] r.expression.now (codes " "))
    (an_element (codes "<span class=\"file\">") (verdict_text Line r) (codes "</span></li>\n")))

-- ---- the page

if_refused : (r : Report) (v : Verdict) → Same (in_refused page_text r v) (in_refused left_out r v)
if_refused r Allowed = equal []
if_refused r ByException = equal []
if_refused r Refused = a_refused r
if_refused r (Unstated allowed) = equal []

if_unstated : (r : Report) (v : Verdict) → Same (in_unstated page_text r v) (in_unstated left_out r v)
if_unstated r Allowed = equal []
if_unstated r ByException = equal []
if_unstated r Refused = equal []
if_unstated r (Unstated allowed) = an_unstated allowed r

if_allowed : (r : Report) (v : Verdict) → Same (in_allowed page_text r v) (in_allowed left_out r v)
if_allowed r Allowed = an_allowed r
if_allowed r ByException = an_allowed r
if_allowed r Refused = equal []
if_allowed r (Unstated allowed) = equal []

section : (title number before items items' after : List ℕ) → Same items items' → Same (title ++ (number ++ (before ++ (items ++ after)))) (title ++ (number ++ (before ++ (items' ++ after))))
section title number before items items' after h =
    both (equal title) (both (equal number) (both (equal before) (both h (equal after))))

refused : (totals : Totals) (rs : List Report) → Same (refused_section page_text totals rs) (refused_section left_out totals rs)
refused totals rs =
    section (codes "<section>\n<h2>Refused: ") (decimal totals.refused) (codes "</h2>\n") (flat_map (λ r. in_refused page_text r r.verdict) rs) (flat_map (λ r. in_refused left_out r r.verdict) rs) (codes "</section>\n")
    (each (λ r. in_refused page_text r r.verdict) (λ r. in_refused left_out r r.verdict) (λ r. if_refused r r.verdict) rs)

unstated : (totals : Totals) (rs : List Report) → Same (unstated_section page_text totals rs) (unstated_section left_out totals rs)
unstated totals rs =
    section (codes "<section>\n<h2>Without a licence: ") (decimal totals.unstated) (codes "</h2>\n<ul>\n") (flat_map (λ r. in_unstated page_text r r.verdict) rs) (flat_map (λ r. in_unstated left_out r r.verdict) rs) (codes "</ul>\n</section>\n")
    (each (λ r. in_unstated page_text r r.verdict) (λ r. in_unstated left_out r r.verdict) (λ r. if_unstated r r.verdict) rs)

allowed : (totals : Totals) (rs : List Report) → Same (allowed_section page_text totals rs) (allowed_section left_out totals rs)
allowed totals rs =
    section (codes "<details>\n<summary><h2>Allowed: ") (decimal totals.allowed) (codes "</h2></summary>\n<ul>\n") (flat_map (λ r. in_allowed page_text r r.verdict) rs) (flat_map (λ r. in_allowed left_out r r.verdict) rs) (codes "</ul>\n</details>\n")
    (each (λ r. in_allowed page_text r r.verdict) (λ r. in_allowed left_out r r.verdict) (λ r. if_allowed r r.verdict) rs)

title : (policy : List ℕ) (totals : Totals) → Same (title_part page_text policy totals) (title_part left_out policy totals)
title policy totals =
    both (an_element (codes "<h1>Licences by ") policy (codes "</h1>\n")) (an_element (codes "<p>") (totals_words totals) (codes "</p>\n"))

whole : (policy : List ℕ) (totals : Totals) (rs : List Report) → Same (page_with page_text policy totals rs) (page_with left_out policy totals rs)
whole policy totals rs =
    both (equal page_top) (both (title policy totals) (both (refused totals rs) (both (unstated totals rs) (both (allowed totals rs) (equal (codes "</main>\n</body>\n</html>\n"))))))

pub no_added_markup : (policy : List ℕ) (totals : Totals) (rs : List Report) → marks (page_with page_text policy totals rs) ≡ marks (page_with left_out policy totals rs)
no_added_markup policy totals rs = (whole policy totals rs).is

pub in_a_row : (a b c d e f : List ℕ) → ((((a ++ b) ++ c) ++ d) ++ e) ++ f ≡ a ++ (b ++ (c ++ (d ++ (e ++ f))))
in_a_row a b c d e f = simp append_assoc
