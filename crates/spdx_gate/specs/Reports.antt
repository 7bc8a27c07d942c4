-- What a report says of packages.
use Rattle.std.specs.Prelude.{◌≡◌, ◌==◌, ℕ, Bool, true, false, ◌&&◌, List, Option, Some, None, Ok, option_and_then, slice_get, map, string_bytes, All, Contains}
use Rattle.std.specs.List.{AllZip, list_any}
use Rattle.std.specs.Option.{option_copied}
use Rattle.std.proofs.Common.{◌⊎◌}
use Rattle.spdx_requirement.specs.Rows.{Rows}
use Rattle.spdx_lexer.specs.Reading.{reading}
use Rattle.spdx_lexer.specs.Words.{Placed, words}
use Rattle.spdx_lexer.specs.declared.token.ParseMode.{ParseMode}
use Rattle.spdx_parser.specs.Tree.{Tree}
use Rattle.spdx_parser.specs.Faults.{HasNoTree}
use Rattle.spdx_parser.specs.Grammar.{IsTheTree}
use Rattle.spdx_policy.specs.declared.decision.Decision.{Decision}
use Rattle.spdx_policy.specs.declared.decision.Decision.TheVariants as decision
use Rattle.spdx_policy.specs.declared.decision.Entry.{Entry}
use Rattle.spdx_policy.specs.declared.decision.Entry.TheVariants as entry
use Rattle.spdx_policy.specs.Decisions.{or_else}
use Rattle.spdx_policy.specs.Rules.{Rules}
use Rattle.spdx_policy.specs.Scopes.{holds, places}
use Rattle.spdx_gate.specs.declared.package.Package.{Package}
use Rattle.spdx_gate.specs.declared.package.Verdict.{Verdict}
use Rattle.spdx_gate.specs.declared.package.Verdict.TheVariants as verdict
use Rattle.spdx_gate.specs.declared.judgement.Outcome.{Outcome}
use Rattle.spdx_gate.specs.declared.judgement.Outcome.TheVariants as outcome
use Rattle.spdx_gate.specs.declared.judgement.Judgement.{Judgement}
use Rattle.spdx_gate.specs.declared.report.Row.{Row}
use Rattle.spdx_gate.specs.declared.report.Report.{Report}
use Rattle.spdx_gate.specs.Judging.{mode_of, verdict_of, IsOutcome}

-- the exceptions that hold for a package
abbrev pub tables_of : Rules → Package → List ℕ
tables_of p x = places (holds x.name.now (option_copied x.version)) p.exempted

-- the clarification that holds for it: the first
abbrev pub clarified_by : Rules → Package → Option ℕ
clarified_by p x = slice_get (places (holds x.name.now (option_copied x.version)) p.clarified) 0

-- the expression of the clarification, if there is one, else the licence
abbrev pub text_by : Rules → Option ℕ → Option (List ℕ) → Option (List ℕ)
text_by p clarification license =
    or_else (option_and_then (slice_get p.expressions) clarification) license

-- what is judged of it
abbrev pub text_of : Rules → Package → Option (List ℕ)
text_of p x = text_by p (clarified_by p x) (option_copied x.license)

-- the text means that tree, and no other
abbrev pub Means : Rows → ParseMode → List ℕ → Tree → Type 0
Means c m text t =
    (read : List Placed) × (reading c m 0 text ≡ map Ok read) × IsTheTree c m (words read) t

-- the verdict of a text: it has no tree, or the verdict is that of its tree
abbrev pub IsVerdictOfText : Rows → Rules → List ℕ → Option (List ℕ) → Verdict → Type 0
IsVerdictOfText c p tables None v = v ≡ verdict.Unstated p.unstated
IsVerdictOfText c p tables (Some text) v =
    (HasNoTree c (mode_of p) text × (v ≡ verdict.Unreadable)) ⊎
    ((t : Tree) × Means c (mode_of p) text t × (v ≡ verdict_of p tables t))

abbrev pub IsVerdictOf : Rows → Rules → Package → Verdict → Type 0
IsVerdictOf c p x v = IsVerdictOfText c p (tables_of p x) (text_of p x) v

abbrev pub outcome_verdict : Outcome → Verdict
outcome_verdict (outcome.Judged j) = j.verdict
outcome_verdict (outcome.Unreadable f) = verdict.Unreadable

-- a judgement of this text under these exceptions
pub record IsOf (tables text : List ℕ) (j : Judgement) : Type 0 where
  pub text_is : string_bytes j.text ≡ text
  pub exceptions_are : j.exceptions.items ≡ tables

-- what it says comes out of its text
abbrev pub IsRight : Rows → Rules → Judgement → Type 0
IsRight c p j = IsOutcome c p j.exceptions.items (string_bytes j.text) j.outcome

-- among the judgements stands one of this text under these exceptions, at that place
pub record IsAt (js : List Judgement) (tables text : List ℕ) (k : ℕ) : Type 0 where
  pub judgement : Judgement
  pub there : slice_get js k ≡ Some judgement
  pub is_of : IsOf tables text judgement

-- no two of the judgements are of the same text under the same exceptions
abbrev pub AreDistinct : List Judgement → Type 0
AreDistinct js =
    (tables text : List ℕ) (i k : ℕ) → IsAt js tables text i → IsAt js tables text k → i ≡ k

abbrev pub IsPlaceOf : List Judgement → List ℕ → Option (List ℕ) → Option ℕ → Type 0
IsPlaceOf js tables None place = place ≡ None
IsPlaceOf js tables (Some text) None = ⊥
IsPlaceOf js tables (Some text) (Some k) = IsAt js tables text k

-- what a report says of one package
pub record IsRow (c : Rows) (p : Rules) (js : List Judgement) (x : Package)
    (row : Row) : Type 0 where
  pub verdict : IsVerdictOf c p x row.verdict
  pub exceptions : row.exceptions.items ≡ tables_of p x
  pub clarification : row.clarification ≡ clarified_by p x
  pub judgement : IsPlaceOf js (tables_of p x) (text_of p x) row.judgement

-- the judgement is of the text of one of the packages, under its exceptions
abbrev pub IsAsked : Rules → List Package → Judgement → Type 0
IsAsked p xs j =
    (x : Package) × Contains xs x × (text_of p x ≡ Some (string_bytes j.text)) ×
    (tables_of p x ≡ j.exceptions.items)

-- A row for each package, in order; each judgement is right, of one of the packages, and there
-- once.
pub record IsReport (c : Rows) (p : Rules) (xs : List Package) (report : Report) : Type 0 where
  pub rows : AllZip (IsRow c p report.judgements.items) xs report.rows.items
  pub right : All (IsRight c p) report.judgements.items
  pub asked : All (IsAsked p xs) report.judgements.items
  pub distinct : AreDistinct report.judgements.items

-- which verdicts count as allowed, as refused, as unstated
abbrev pub counts_allowed : Verdict → Bool
counts_allowed verdict.Allowed = true
counts_allowed verdict.ByException = true
counts_allowed (verdict.Unstated b) = false
counts_allowed verdict.Unreadable = false
counts_allowed verdict.Refused = false

abbrev pub counts_by_exception : Verdict → Bool
counts_by_exception verdict.Allowed = false
counts_by_exception verdict.ByException = true
counts_by_exception (verdict.Unstated b) = false
counts_by_exception verdict.Unreadable = false
counts_by_exception verdict.Refused = false

abbrev pub counts_refused : Verdict → Bool
counts_refused verdict.Allowed = false
counts_refused verdict.ByException = false
counts_refused (verdict.Unstated b) = false
counts_refused verdict.Unreadable = true
counts_refused verdict.Refused = true

abbrev pub counts_unstated : Verdict → Bool
counts_unstated verdict.Allowed = false
counts_unstated verdict.ByException = false
counts_unstated (verdict.Unstated b) = true
counts_unstated verdict.Unreadable = false
counts_unstated verdict.Refused = false

abbrev pub same_entry : Entry → Entry → Bool
same_entry (entry.Allow i) (entry.Allow j) = i == j
same_entry (entry.AllowIf i) (entry.AllowIf j) = i == j
same_entry (entry.Deny i) (entry.Deny j) = i == j
same_entry (entry.DenyIf i) (entry.DenyIf j) = i == j
same_entry (entry.Exception s i) (entry.Exception t j) = (s == t) && (i == j)
same_entry e f = false

-- whether the entry is the one that decided
abbrev pub is_by : Entry → Decision → Bool
is_by e (decision.Allowed f) = same_entry e f
is_by e (decision.Denied f) = same_entry e f
is_by e decision.Open = false

-- whether it decided a requirement of the text
abbrev pub decided_in : Entry → Outcome → Bool
decided_in e (outcome.Judged j) = list_any (is_by e) j.decisions.items
decided_in e (outcome.Unreadable f) = false

abbrev pub has_exception : ℕ → Row → Bool
has_exception table row = list_any (λ k. k == table) row.exceptions.items

abbrev pub is_number : Option ℕ → ℕ → Bool
is_number None k = false
is_number (Some n) k = n == k

abbrev pub has_clarification : ℕ → Row → Bool
has_clarification table row = is_number row.clarification table
