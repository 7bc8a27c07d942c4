-- Where all of a policy is used nothing is told.
use Rattle.std.proofs.Common.{◌≡◌, ℕ, ◌<◌, Bool, cond, List, [], ◌∷◌, ◌++◌, flat_map, length, ap, ◌∙◌, arith}
use Rattle.std.specs.List.{range_with_len}
use Rattle.std.specs.Prelude.{Result, Ok, Err, OnOk, OnErr}
use Rattle.std.proofs.lemmas.List.{append-nil}
use Rattle.spdx_policy.specs.Rules.{Rules}
use Rattle.spdx_gate.specs.declared.report.Report.{Report}
use Rattle.gate_told.specs.declared.unused.EntryList.{EntryList}
use Rattle.gate_told.specs.declared.unused.EntryList.TheVariants.{Deny, DenyIf, Allow, AllowIf, Exception}
use Rattle.gate_told.specs.Entries.{exception_text, told_entry}
use Rattle.gate_told.specs.Unused.{IsAllUsed, clarification_text, entry_in, list_len, unused_clarification, unused_clarifications, unused_entry, unused_exception, unused_exceptions, unused_in, unused_of}
use Rattle.gate_told.proofs.Ranges.{flat_none}

up_to : {A : Type 0} (f : ℕ → List A) (n : ℕ) → ((k : ℕ) → k < n → f k ≡ []) → flat_map f (range_with_len 0 n) ≡ []
up_to f n h = flat_none f 0 n (λ k lt. h k (omega arith))

list_silent : (p : Rules) (report : Report) → IsAllUsed p report → (list : EntryList) → unused_in p report list ≡ []
list_silent p report used list =
    up_to (λ place. unused_entry p report (entry_in list place)) (list_len p list)
    (λ k lt. ap (λ (b : Bool). cond b [] (told_entry p (entry_in list k) ∷ [])) (used.entries list k lt))

exceptions_silent : (p : Rules) (report : Report) → IsAllUsed p report → unused_exceptions p report ≡ []
exceptions_silent p report used =
    up_to (unused_exception p report) (length p.exempted)
    (λ k lt. ap (λ (b : Bool). cond b (unused_in p report (Exception k)) (exception_text p k ∷ [])) (used.exceptions k lt) ∙ list_silent p report used (Exception k))

clarifications_silent : (p : Rules) (report : Report) → IsAllUsed p report → unused_clarifications p report ≡ []
clarifications_silent p report used =
    up_to (unused_clarification p report) (length p.clarified)
    (λ k lt. ap (λ (b : Bool). cond b [] (clarification_text p k ∷ [])) (used.clarifications k lt))

pub all_silent : (p : Rules) (report : Report) → IsAllUsed p report → unused_of p report ≡ []
all_silent p report used =
    rw (
      list_silent p report used Deny,
      list_silent p report used DenyIf,
      list_silent p report used Allow,
      list_silent p report used AllowIf,
      exceptions_silent p report used,
      clarifications_silent p report used,
    )

pub unchanged : {T E : Type 0} (r : Result T E) (old new more : List ℕ) → OnOk r (new ≡ old ++ more) → OnErr r (new ≡ old) → more ≡ [] → new ≡ old
unchanged (Ok x) old new more f g e = f ∙ ap (λ (xs : List ℕ). old ++ xs) e ∙ append-nil old
unchanged (Err x) old new more f g e = g
