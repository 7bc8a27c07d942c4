-- What a policy's judgement of a package says of its choice.
use Rattle.std.specs.Prelude.{◌≡◌, ℕ, List, [], ◌∷◌, ◌++◌, Option, Some, None, All, map, option_and_then, slice_get, string_bytes}
use Rattle.std.specs.List.{AllZip}
use Rattle.spdx_requirement.specs.Rows.{Rows}
use Rattle.spdx_policy.specs.Rules.{Rules}
use Rattle.package_items.specs.declared.package.Package.{Package}
use Rattle.spdx_why.specs.Least.{advised, chosen, unmet, too_many}
use Rattle.spdx_gate.specs.declared.judged.Judged.{Judged}
use Rattle.spdx_gate.specs.declared.judgement.Fault.{Fault}
use Rattle.spdx_gate.specs.declared.judgement.Judgement.{Judgement}
use Rattle.spdx_gate.specs.declared.report.Report.{Report}
use Rattle.spdx_gate.specs.declared.report.Row.{Row}
use Rattle.spdx_gate.specs.Judging.{IsJudged, IsOutcome, IsUnread}
use Rattle.spdx_gate.specs.Reports.{IsRight, IsRow, tables_of, text_of}
use Rattle.gate_program.specs.Files.{view_of}
use Rattle.choice_program.specs.declared.unchosen.Unchosen.{Unchosen}
use Rattle.choice_program.specs.declared.unchosen.Why.{Why}
use Rattle.choice_program.specs.declared.unchosen.Why.TheVariants as why
use Rattle.choice_program.specs.Unchosen.{IsUnchosen}
use Rattle.package_items.specs.Each.{AreHad}
use Rattle.choice_program.specs.declared.allowed.AllOwn.{AllOwn}
use Rattle.choice_program.specs.Picked.{Pick, pick_of}

-- what the policy judges of the package, a clarification's expression or its licence, and the
-- exceptions that hold for it
abbrev pub text_for : Rules → Package → Option (List ℕ)
text_for p x = text_of p (view_of x)

abbrev pub tables_for : Rules → Package → List ℕ
tables_for p x = tables_of p (view_of x)

-- the gate's judgement of the package, whose text is an expression
pub record IsJudgedOf (c : Rows) (p : Rules) (x : Package) (j : Judged) : Type 0 where
  pub text : List ℕ
  pub text_is : text_for p x ≡ Some text
  pub judged : IsJudged c p (tables_for p x) text j

-- the choice of its judgement is that of these numbers
abbrev pub HasOwn : Rows → Rules → Package → Pick → Type 0
HasOwn c p x pick = IsJudgedOf c p x pick.judged × (advised pick.judged.choice ≡ chosen pick.numbers)

-- its judgement has no choice, for this reason
abbrev pub IsWhyNot : Rows → Rules → Package → Why → Type 0
IsWhyNot c p x why.Unstated = text_for p x ≡ None
IsWhyNot c p x (why.Unreadable told r) =
    (text_for p x ≡ Some (string_bytes told)) ×
    ((f : Fault) × IsUnread c p (string_bytes told) f × (r ≡ f.reason))
IsWhyNot c p x why.NotAllowed = (j : Judged) × IsJudgedOf c p x j × (advised j.choice ≡ unmet)
IsWhyNot c p x why.TooMany =
    (j : Judged) × IsJudgedOf c p x j × ((n : ℕ) × (advised j.choice ≡ too_many n))
IsWhyNot c p x (why.Unmet e) = ⊥

abbrev pub HasNoOwn : Rows → Rules → Package → Unchosen → Type 0
HasNoOwn c p x u = IsUnchosen x (IsWhyNot c p x) u

-- ---- the parts of it, which only private clauses cite

-- a report of the packages, a row for each, in their order
pub record IsReportOn (c : Rows) (p : Rules) (packages : List Package) (report : Report) :
    Type 0 where
  pub rows : AllZip (λ (x : Package) (row : Row). IsRow c p report.judgements.items (view_of x) row)
      packages report.rows.items
  pub right : All (IsRight c p) report.judgements.items

-- the judgement that a row names
abbrev pub judgement_in : Report → Row → Option Judgement
judgement_in report row = option_and_then (slice_get report.judgements.items) row.judgement

-- that of the package of a number
abbrev pub judgement_at : Report → ℕ → Option Judgement
judgement_at report number =
    option_and_then (judgement_in report) (slice_get report.rows.items number)

-- the judgement is that of the package; there is none, where it states no licence
abbrev pub IsJudgementOf : Rows → Rules → Package → Option Judgement → Type 0
IsJudgementOf c p x None = text_for p x ≡ None
IsJudgementOf c p x (Some j) =
    (text_for p x ≡ Some (string_bytes j.text)) ×
    IsOutcome c p (tables_for p x) (string_bytes j.text) j.outcome

-- whatever policy and package the judgement is of, it has this choice, or none for this reason
abbrev pub IsOwnBy : Option Judgement → Pick → Type 0
IsOwnBy o pick = (c : Rows) → (p : Rules) → (x : Package) → IsJudgementOf c p x o → HasOwn c p x pick

abbrev pub IsWhyNotBy : Option Judgement → Why → Type 0
IsWhyNotBy o w = (c : Rows) → (p : Rules) → (x : Package) → IsJudgementOf c p x o → IsWhyNot c p x w

abbrev pub HasOwnBy : Package → Option Judgement → Pick → Type 0
HasOwnBy x o pick = (c : Rows) → (p : Rules) → IsJudgementOf c p x o → HasOwn c p x pick

abbrev pub HasNoOwnBy : Package → Option Judgement → Unchosen → Type 0
HasNoOwnBy x o u = (c : Rows) → (p : Rules) → IsJudgementOf c p x o → HasNoOwn c p x u

-- what a policy chose of an expression, or why it didn't
abbrev pub IsPickOf : Judged → Pick → Type 0
IsPickOf j pick = (pick.judged ≡ j) × (advised j.choice ≡ chosen pick.numbers)

abbrev pub IsNotPicked : Judged → Why → Type 0
IsNotPicked j why.NotAllowed = advised j.choice ≡ unmet
IsNotPicked j why.TooMany = (n : ℕ) × (advised j.choice ≡ too_many n)
IsNotPicked j w = ⊥

abbrev pub IsUnreadableBy : List ℕ → Fault → Why → Type 0
IsUnreadableBy text f (why.Unreadable told r) = (string_bytes told ≡ text) × (r ≡ f.reason)
IsUnreadableBy text f w = ⊥

abbrev pub AreOwn : Rows → Rules → List Package → AllOwn → Type 0
AreOwn c p packages all =
    AreHad (HasOwn c p) (HasNoOwn c p) packages (map pick_of all.own.items) all.lacking.items

-- one package more
abbrev pub IsOneOwn : Package → Option Judgement → AllOwn → AllOwn → Type 0
IsOneOwn x o old new =
    (c : Rows) → (p : Rules) → IsJudgementOf c p x o → (packages : List Package) →
    AreOwn c p packages old → AreOwn c p (packages ++ x ∷ []) new

-- whatever policy the report is of
abbrev pub AreOwnOn : Report → List Package → AllOwn → Type 0
AreOwnOn report packages all =
    (c : Rows) → (p : Rules) → IsReportOn c p packages report → AreOwn c p packages all

abbrev pub HaveOwnOn : Report → List Package → List Pick → Type 0
HaveOwnOn report packages own =
    (c : Rows) → (p : Rules) → IsReportOn c p packages report → AllZip (HasOwn c p) packages own
