-- What would make refused packages pass.
use Rattle.std.specs.Prelude.{◌≡◌, ℕ, Bool, true, false, List, [], Option, Some, None, option_and_then, if◌then◌else◌, map, flat_map, count_by, slice_get, string_bytes, All}
use Rattle.std.specs.Borrow.{Bor}
use Rattle.spdx_requirement.specs.Rows.{Rows}
use Rattle.spdx_evaluation.specs.Postfix.{tree_in}
use Rattle.spdx_policy.specs.Growing.{with_allowed}
use Rattle.spdx_policy.specs.Rules.{NamedRow, Rules}
use Rattle.spdx_gate.specs.declared.advice.Advice.{Advice}
use Rattle.spdx_gate.specs.declared.advice.Advice.TheVariants as advice
use Rattle.spdx_gate.specs.declared.judged.Judged.{Judged}
use Rattle.spdx_gate.specs.declared.judgement.Judgement.{Judgement}
use Rattle.spdx_gate.specs.declared.judgement.Outcome.{Outcome}
use Rattle.spdx_gate.specs.declared.judgement.Outcome.TheVariants as outcome
use Rattle.spdx_gate.specs.declared.needs.Need.{Need}
use Rattle.spdx_gate.specs.declared.package.Package.{Package}
use Rattle.spdx_gate.specs.declared.package.Verdict.{Verdict}
use Rattle.spdx_gate.specs.declared.package.Verdict.TheVariants as verdict
use Rattle.spdx_gate.specs.declared.report.Row.{Row}
use Rattle.spdx_gate.specs.declared.report.Report.{Report}
use Rattle.spdx_gate.specs.Advising.{HasEntry}
use Rattle.spdx_gate.specs.Judging.{verdict_of}
use Rattle.spdx_gate.specs.Reports.{IsReport}
pub use Rattle.spdx_gate.specs.Texts.{is_among, with_text}
use Rattle.spdx_gate.specs.Texts.{each_once}
use Rattle.spdx_gate.specs.Verdicts.{passes}

abbrev pub texts_of : List (Bor (List ℕ)) → List (List ℕ)
texts_of texts = map (λ (x : Bor (List ℕ)). x.now) texts

abbrev pub advice_of : Outcome → Option Advice
advice_of (outcome.Judged j) = Some j.advice
advice_of (outcome.Unreadable f) = None

-- the advice on a refused package; none where it passes, states no licence, or its text is no
-- expression
abbrev pub advice_by : List Judgement → Verdict → Option ℕ → Option Advice
advice_by js verdict.Refused place =
    option_and_then (λ k. option_and_then (λ (j : Judgement). advice_of j.outcome) (slice_get js k))
    place
advice_by js v place = None

abbrev pub advice_on : List Judgement → Row → Option Advice
advice_on js row = advice_by js row.verdict row.judgement

abbrev pub texts_in : Option Advice → List (List ℕ)
texts_in None = []
texts_in (Some (advice.Allow texts)) = map string_bytes texts.items
texts_in (Some advice.Unmet) = []
texts_in (Some (advice.TooMany n)) = []

-- the entries that a package needs
abbrev pub needed_by : List Judgement → Row → List (List ℕ)
needed_by js row = texts_in (advice_on js row)

-- the entries that packages need, each once, as they are needed first
abbrev pub entries_needed : Report → List (List ℕ)
entries_needed report = each_once (flat_map (needed_by report.judgements.items) report.rows.items)

-- how many packages need that entry
abbrev pub packages_needing : Report → List ℕ → ℕ
packages_needing report text =
    count_by (λ row. is_among (needed_by report.judgements.items row) text) report.rows.items

abbrev pub need_entry : Need → List ℕ
need_entry n = string_bytes n.entry

abbrev pub need_packages : Need → ℕ
need_packages n = n.packages

-- whether nothing that may be allowed makes a refused package pass
abbrev pub is_unmet_by : Option Advice → Bool
is_unmet_by None = true
is_unmet_by (Some (advice.Allow texts)) = false
is_unmet_by (Some advice.Unmet) = true
is_unmet_by (Some (advice.TooMany n)) = false

abbrev pub is_unmet : List Judgement → Row → Bool
is_unmet js row = if passes row.verdict then false else is_unmet_by (advice_on js row)

abbrev pub is_unsought_by : Option Advice → Bool
is_unsought_by None = false
is_unsought_by (Some (advice.Allow texts)) = false
is_unsought_by (Some advice.Unmet) = false
is_unsought_by (Some (advice.TooMany n)) = true

abbrev pub is_unsought : List Judgement → Row → Bool
is_unsought js row = is_unsought_by (advice_on js row)

-- the refused package passes with these entries in `allow`
abbrev pub PassesWith : Rules → List NamedRow → List Judgement → Row → Type 0
PassesWith p more js row =
    (k : ℕ) (j : Judgement) (d : Judged) → row.verdict ≡ verdict.Refused → row.judgement ≡ Some k →
    slice_get js k ≡ Some j → j.outcome ≡ outcome.Judged d
    → is_unmet_by (Some d.advice) ≡ false → is_unsought_by (Some d.advice) ≡ false
    → passes (verdict_of (with_allowed p more) j.exceptions.items (tree_in d.nodes.items)) ≡ true

-- With entries of the texts in `allow`, whatever the policy's file makes of them, each refused
-- package that something helps passes.
abbrev pub NeedsWork : Report → List Need → Type 0
NeedsWork report needs =
    (c : Rows) (p : Rules) (xs : List Package) (more : List NamedRow) → IsReport c p xs report →
    All (HasEntry p more) (map need_entry needs)
    → All (PassesWith p more report.judgements.items) report.rows.items
