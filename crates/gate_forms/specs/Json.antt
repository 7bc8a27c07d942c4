-- A refused package as a JSON value, and as a line of JSON.
use Rattle.std.specs.Prelude.{ℕ, List, [], ◌∷◌, ◌++◌, Option, None, Some, codes, decimal, map, if◌then◌else◌}
use Rattle.std.specs.Borrow.{Bor}
use Rattle.json.specs.Token.{Token}
use Rattle.json.specs.Json.{Json, null, number, string, array, object, Items, no_items, item, Members, no_members, member}
use Rattle.json.specs.Print.{print}
use Rattle.json.specs.Tree.{json_tokens}
use Rattle.finding_forms.specs.Json.{texts_of}
use Rattle.gate_forms.specs.declared.reports.Advice.{Advice}
use Rattle.gate_forms.specs.declared.reports.Advice.TheVariants.{Unmet, Allow, NotSought}
use Rattle.gate_forms.specs.declared.reports.Baseline.{Baseline}
use Rattle.gate_forms.specs.declared.reports.Baseline.TheVariants.{Absent, New, Known}
use Rattle.gate_forms.specs.declared.reports.Leaf.{Leaf}
use Rattle.gate_forms.specs.declared.reports.Verdict.{Verdict}
use Rattle.gate_forms.specs.declared.reports.Verdict.TheVariants.{Allowed, ByException, Refused, Unstated}
use Rattle.gate_forms.specs.declared.reports.Why.{Why}
use Rattle.gate_forms.specs.declared.reports.Why.TheVariants.{Nothing, Fault, Missing}
use Rattle.gate_forms.specs.declared.reports.Report.{Report}
use Rattle.gate_forms.specs.Report.{is_refused}

abbrev pub verdict_word : Verdict → List ℕ
verdict_word Allowed = codes "allowed"
verdict_word ByException = codes "allowed by exception"
verdict_word Refused = codes "refused"
verdict_word (Unstated allowed) = codes "unstated"

abbrev pub version_json : Option (Bor (List ℕ)) → Json
version_json None = null
version_json (Some version) = string version.now

abbrev pub leaf_texts : List Leaf → Items
leaf_texts [] = no_items
leaf_texts (leaf ∷ leaves) = item (string leaf.text.now) (leaf_texts leaves)

-- `advice` stands there exactly where something helps, `advice_from` where that was not sought
abbrev pub advice_members : Advice → Members
advice_members Unmet = no_members
advice_members (Allow names) =
    member (codes "advice") (array (texts_of (map (λ (x : Bor (List ℕ)). x.now) names.now)))
    no_members
advice_members (NotSought entries) =
    member (codes "advice_from") (number (decimal entries)) no_members

abbrev pub fault_members : List ℕ → ℕ → ℕ → Members
fault_members reason start end =
    member (codes "reason") (string reason)
    (member (codes "start") (number (decimal start))
    (member (codes "end") (number (decimal end)) no_members))

abbrev pub why_members : Why → Members
why_members Nothing = no_members
why_members (Fault reason start end) = fault_members reason.now start end
why_members (Missing leaves advice) =
    member (codes "missing") (array (leaf_texts leaves.now)) (advice_members advice)

-- whether the refusal is known, before the other members; nothing where there is no baseline
abbrev pub baseline_members : Baseline → Members → Members
baseline_members Absent more = more
baseline_members New more = member (codes "baseline") (string (codes "new")) more
baseline_members Known more = member (codes "baseline") (string (codes "known")) more

abbrev pub json_of : Report → Json
json_of r =
    object
    (member (codes "file") (string r.file.now)
    (member (codes "name") (string r.name.now)
    (member (codes "version") (version_json r.version)
    (member (codes "expression") (string r.expression.now)
    (member (codes "verdict") (string (verdict_word r.verdict))
    (baseline_members r.baseline (why_members r.why)))))))

abbrev pub json_text : Report → List ℕ
json_text r = print (json_tokens (json_of r))

abbrev pub json_line : Report → List ℕ
json_line r = json_text r ++ 10 ∷ []

abbrev pub json_lines : Report → List ℕ
json_lines r = if is_refused r.verdict then json_line r else []

-- ---- the tokens of the members, as they are written

abbrev pub package_tokens : Report → List Token
package_tokens r =
    Token.key (codes "file") ∷ Token.string r.file.now ∷ Token.key (codes "name") ∷
    Token.string r.name.now ∷ Token.key (codes "version") ∷ json_tokens (version_json r.version)

abbrev pub state_tokens : List ℕ → List Token
state_tokens state = Token.key (codes "baseline") ∷ Token.string state ∷ []

abbrev pub baseline_tokens : Baseline → List Token
baseline_tokens Absent = []
baseline_tokens New = state_tokens (codes "new")
baseline_tokens Known = state_tokens (codes "known")

abbrev pub verdict_tokens : Report → List Token
verdict_tokens r =
    Token.key (codes "expression") ∷ Token.string r.expression.now ∷ Token.key (codes "verdict") ∷
    Token.string (verdict_word r.verdict) ∷ baseline_tokens r.baseline
