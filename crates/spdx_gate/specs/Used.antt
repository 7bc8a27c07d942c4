-- What was of use, as sets have it. Only private clauses cite it.
use Rattle.std.specs.Prelude.{◌≡◌, ℕ, Bool, ◌||◌, List}
use Rattle.std.specs.List.{list_any}
use Rattle.std.specs.declared.cmp.Ordering.{Ordering}
use Rattle.std.specs.Ordering.{nat_cmp}
use Rattle.std.specs.BTreeSet as tree
use Rattle.std.specs.BTreeSet.{BTreeSet}
use Rattle.spdx_policy.specs.declared.decision.Entry.{Entry}
use Rattle.spdx_policy.specs.contracts.decision.EntryOrd.TheImpl as entry_ord
use Rattle.spdx_gate.specs.declared.judgement.Judgement.{Judgement}
use Rattle.spdx_gate.specs.declared.report.Row.{Row}
use Rattle.spdx_gate.specs.Reports.{decided_in, has_exception, has_clarification}

-- the order of entries
abbrev pub entry_cmp : Entry → Entry → Ordering
entry_cmp = (entry_ord.ghosts).cmp

abbrev pub has_entry : BTreeSet Entry → Entry → Bool
has_entry entries e = tree.contains entry_cmp entries e

abbrev pub has_number : BTreeSet ℕ → ℕ → Bool
has_number numbers n = tree.contains nat_cmp numbers n

-- the entries are those that decided a requirement of one of the texts
abbrev pub AreDecided : BTreeSet Entry → List Judgement → Type 0
AreDecided entries js =
    (e : Entry) → has_entry entries e ≡ list_any (λ (j : Judgement). decided_in e j.outcome) js

-- the exceptions are those that hold for one of the packages
abbrev pub AreExceptions : BTreeSet ℕ → List Row → Type 0
AreExceptions numbers rows =
    (table : ℕ) → has_number numbers table ≡ list_any (has_exception table) rows

-- the clarifications are
abbrev pub AreClarifications : BTreeSet ℕ → List Row → Type 0
AreClarifications numbers rows =
    (table : ℕ) → has_number numbers table ≡ list_any (has_clarification table) rows

-- besides the entries that there were, those of the test
abbrev pub AddsEntries : BTreeSet Entry → (Entry → Bool) → BTreeSet Entry → Type 0
AddsEntries old test new = (e : Entry) → has_entry new e ≡ (has_entry old e || test e)

abbrev pub AddsNumbers : BTreeSet ℕ → (ℕ → Bool) → BTreeSet ℕ → Type 0
AddsNumbers old test new = (n : ℕ) → has_number new n ≡ (has_number old n || test n)
