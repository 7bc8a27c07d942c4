-- The entries of a policy that decided nothing, and the tables that hold for no package.
use Rattle.std.specs.Prelude.{◌≡◌, ℕ, ◌<◌, Bool, true, List, [], ◌∷◌, ◌++◌, codes, flat_map, length, if◌then◌else◌}
use Rattle.std.specs.List.{list_any, range_with_len}
use Rattle.spdx_policy.specs.declared.decision.Entry.{Entry}
use Rattle.spdx_policy.specs.declared.decision.Entry.TheVariants as entry
use Rattle.spdx_policy.specs.Rules.{Rules, allowed_by}
use Rattle.spdx_gate.specs.declared.report.Report.{Report}
use Rattle.spdx_gate.specs.Reports.{decided_in, has_exception, has_clarification}
use Rattle.gate_told.specs.declared.unused.EntryList.{EntryList}
use Rattle.gate_told.specs.declared.unused.EntryList.TheVariants.{Deny, DenyIf, Allow, AllowIf, Exception}
use Rattle.gate_told.specs.Entries.{exception_text, package_text, told_entry}

abbrev pub list_len : Rules → EntryList → ℕ
list_len p Deny = length p.deny
list_len p DenyIf = length p.deny_if
list_len p Allow = length p.allow
list_len p AllowIf = length p.allow_if
list_len p (Exception table) = length (allowed_by p table)

abbrev pub entry_in : EntryList → ℕ → Entry
entry_in Deny place = entry.Deny place
entry_in DenyIf place = entry.DenyIf place
entry_in Allow place = entry.Allow place
entry_in AllowIf place = entry.AllowIf place
entry_in (Exception table) place = entry.Exception table place

-- whether it decided a requirement of some text
abbrev pub is_used : Report → Entry → Bool
is_used report e = list_any (λ j. decided_in e j.outcome) report.judgements.items

abbrev pub unused_entry : Rules → Report → Entry → List (List ℕ)
unused_entry p report e = if is_used report e then [] else told_entry p e ∷ []

-- those of a list, in its order
abbrev pub unused_in : Rules → Report → EntryList → List (List ℕ)
unused_in p report list =
    flat_map (λ place. unused_entry p report (entry_in list place))
    (range_with_len 0 (list_len p list))

-- of an exception that holds for some package its entries; else the exception itself
abbrev pub unused_exception : Rules → Report → ℕ → List (List ℕ)
unused_exception p report table =
    if list_any (has_exception table) report.rows.items then unused_in p report (Exception table)
    else exception_text p table ∷ []

abbrev pub clarification_text : Rules → ℕ → List ℕ
clarification_text p table = codes "clarify for " ++ package_text p.clarified table

abbrev pub unused_clarification : Rules → Report → ℕ → List (List ℕ)
unused_clarification p report table =
    if list_any (has_clarification table) report.rows.items then []
    else clarification_text p table ∷ []

abbrev pub unused_exceptions : Rules → Report → List (List ℕ)
unused_exceptions p report =
    flat_map (unused_exception p report) (range_with_len 0 (length p.exempted))

abbrev pub unused_clarifications : Rules → Report → List (List ℕ)
unused_clarifications p report =
    flat_map (unused_clarification p report) (range_with_len 0 (length p.clarified))

abbrev pub unused_of : Rules → Report → List (List ℕ)
unused_of p report =
    unused_in p report Deny ++
    (unused_in p report DenyIf ++ (unused_in p report Allow ++ (unused_in p report AllowIf ++
    (unused_exceptions p report ++ unused_clarifications p report))))

-- each entry decided something, and each exception and clarification holds for some package
pub record IsAllUsed (p : Rules) (report : Report) : Type 0 where
  pub entries : (list : EntryList) (place : ℕ) → place < list_len p list →
      is_used report (entry_in list place) ≡ true
  pub exceptions : (table : ℕ) → table < length p.exempted →
      list_any (has_exception table) report.rows.items ≡ true
  pub clarifications : (table : ℕ) → table < length p.clarified →
      list_any (has_clarification table) report.rows.items ≡ true
