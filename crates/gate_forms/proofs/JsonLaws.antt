-- The line of a report reads back, and has no newline.
use Rattle.std.proofs.Common.{◌≡◌, ℕ, ◌≤◌, List, [], ◌∷◌, ◌++◌, false, Some, refl, arith}
use Rattle.std.specs.Borrow.{Bor}
use Rattle.std.specs.Prelude.{Option, None, map}
use Rattle.json.specs.Token.{Token, end_object}
use Rattle.json.specs.Lex.{tokens}
use Rattle.json.specs.Json.{Members, max_depth, document}
use Rattle.json.specs.Tree.{json_tokens, items_tokens, members_tokens, depth, items_depth, members_depth}
use Rattle.finding_forms.specs.Json.{HasNoNewline}
use Rattle.finding_forms.proofs.JsonLines.{items_depth-texts_of, document-from, AreOneLine, one_line-print_from, one_line-decimal, texts_one_line}
use Rattle.gate_forms.specs.declared.reports.Advice.{Advice}
use Rattle.gate_forms.specs.declared.reports.Advice.TheVariants.{Unmet, Allow, NotSought}
use Rattle.gate_forms.specs.declared.reports.Baseline.{Baseline}
use Rattle.gate_forms.specs.declared.reports.Baseline.TheVariants.{Absent, New, Known}
use Rattle.gate_forms.specs.declared.reports.Leaf.{Leaf}
use Rattle.gate_forms.specs.declared.reports.Why.{Why}
use Rattle.gate_forms.specs.declared.reports.Why.TheVariants.{Nothing, Fault, Missing}
use Rattle.gate_forms.specs.declared.reports.Report.{Report}
use Rattle.gate_forms.specs.Json.{version_json, leaf_texts, advice_members, baseline_members, baseline_tokens, why_members, json_of, json_text}

items_depth-leaf_texts : (leaves : List Leaf) → items_depth (leaf_texts leaves) ≡ 0
items_depth-leaf_texts [] = refl
items_depth-leaf_texts (leaf ∷ leaves) = omega (arith, items_depth-leaf_texts leaves)

depth-version : (version : Option (Bor (List ℕ))) → depth (version_json version) ≡ 0
depth-version None = refl
depth-version (Some version) = refl

members_depth-advice : (advice : Advice) → members_depth (advice_members advice) ≤ 1
members_depth-advice Unmet = omega arith
members_depth-advice (Allow names) = omega (arith, items_depth-texts_of (map (λ (x : Bor (List ℕ)). x.now) names.now))
members_depth-advice (NotSought entries) = omega arith

members_depth-why : (why : Why) → members_depth (why_members why) ≤ 1
members_depth-why Nothing = omega arith
members_depth-why (Fault reason start end) = omega arith
members_depth-why (Missing leaves advice) = omega (arith, items_depth-leaf_texts leaves.now, members_depth-advice advice)

-- the members of the baseline are its tokens
pub baseline_are : (b : Baseline) (more : Members) → members_tokens (baseline_members b more) ≡ baseline_tokens b ++ members_tokens more
baseline_are Absent more = refl
baseline_are New more = refl
baseline_are Known more = refl

members_depth-baseline : (b : Baseline) (more : Members) → members_depth more ≤ 1 → members_depth (baseline_members b more) ≤ 1
members_depth-baseline Absent more h = h
members_depth-baseline New more h = omega (arith, h)
members_depth-baseline Known more h = omega (arith, h)

depth-json_of : (r : Report) → depth (json_of r) ≤ max_depth
depth-json_of r = omega (arith, depth-version r.version, members_depth-baseline r.baseline (why_members r.why) (members_depth-why r.why))

pub reads_back_from : (r : Report) → tokens (json_text r) ≡ json_tokens (json_of r) → document (json_text r) ≡ Some (json_of r)
reads_back_from r e = document-from (json_text r) (json_of r) e (depth-json_of r)

leaves_one_line : (leaves : List Leaf) (ts : List Token) → AreOneLine ts → AreOneLine (items_tokens (leaf_texts leaves) ++ ts)
leaves_one_line [] ts h = h
leaves_one_line (leaf ∷ leaves) ts h = leaves_one_line leaves ts h

advice_one_line : (advice : Advice) → AreOneLine (members_tokens (advice_members advice))
advice_one_line Unmet = tt
advice_one_line (Allow names) = texts_one_line (map (λ (x : Bor (List ℕ)). x.now) names.now) (end_object ∷ []) tt
advice_one_line (NotSought entries) = (one_line-decimal entries, tt)

why_one_line : (why : Why) → AreOneLine (members_tokens (why_members why))
why_one_line Nothing = tt
why_one_line (Fault reason start end) = (one_line-decimal start, (one_line-decimal end, tt))
why_one_line (Missing leaves advice) = leaves_one_line leaves.now (members_tokens (advice_members advice)) (advice_one_line advice)

version_one_line : (version : Option (Bor (List ℕ))) (ts : List Token) → AreOneLine ts → AreOneLine (json_tokens (version_json version) ++ ts)
version_one_line None ts h = h
version_one_line (Some version) ts h = h

baseline_one_line : (b : Baseline) (more : Members) → AreOneLine (members_tokens more) → AreOneLine (members_tokens (baseline_members b more))
baseline_one_line Absent more h = h
baseline_one_line New more h = h
baseline_one_line Known more h = h

pub one_line-json_text : (r : Report) → HasNoNewline (json_text r)
one_line-json_text r = one_line-print_from false (json_tokens (json_of r)) (version_one_line r.version _ (baseline_one_line r.baseline (why_members r.why) (why_one_line r.why)))
