-- Spans in order.
use Rattle.std.proofs.lemmas.List.{drop_more}
use Rattle.std.proofs.Common.{◌≡◌, ℕ, zero, suc, ◌+◌, ◌<◌, ◌≤◌, List, [], ◌∷◌, ◌++◌, Some, arith, subst, length, drop, get_or}
use Rattle.std.specs.Prelude.{slice_get}
use Rattle.text_places.specs.declared.Span.{Span}
use Rattle.text_places.specs.Order.{AreInOrder}

-- they also lie before a later offset
pub AreInOrder-before : (low : ℕ) (spans : List Span) (high later : ℕ) → AreInOrder low spans high → high ≤ later → AreInOrder low spans later
AreInOrder-before low [] high later h more = omega arith
AreInOrder-before low (s ∷ spans) high later h more = (h.0, h.1, AreInOrder-before s.end spans high later h.2 more)

-- and one more behind them
pub AreInOrder-push : (low : ℕ) (spans : List Span) (high : ℕ) (span : Span) → AreInOrder low spans high → high ≤ span.start → span.start ≤ span.end
    → AreInOrder low (spans ++ span ∷ []) span.end
AreInOrder-push low [] high span h after ordered = (omega arith, ordered, omega arith)
AreInOrder-push low (s ∷ spans) high span h after ordered = (h.0, h.1, AreInOrder-push s.end spans high span h.2 after ordered)

-- the first offset is no later than the last
pub AreInOrder-ends : (low : ℕ) (spans : List Span) (high : ℕ) → AreInOrder low spans high → low ≤ high
AreInOrder-ends low [] high h = h
AreInOrder-ends low (s ∷ spans) high h = let rest = AreInOrder-ends s.end spans high h.2 in omega arith

-- each of them lies there
pub AreInOrder-at : (low : ℕ) (spans : List Span) (high number : ℕ) (span : Span) → AreInOrder low spans high → slice_get spans number ≡ Some span
    → (span.start ≤ span.end) × (span.end ≤ high)
AreInOrder-at low [] high number span h found = absurd (cc)
AreInOrder-at low (s ∷ spans) high zero span h found =
    let same : s ≡ span = cc in
    subst (λ (x : Span). (x.start ≤ x.end) × (x.end ≤ high)) same (h.1, AreInOrder-ends s.end spans high h.2)
AreInOrder-at low (s ∷ spans) high (suc number) span h found = AreInOrder-at s.end spans high number span h.2 found

-- the next of them and those behind it
pub AreInOrder-next : (low : ℕ) (spans : List Span) (i high : ℕ) (d : Span) → AreInOrder low (drop i spans) high → i < length spans
    → AreInOrder low (get_or spans i d ∷ drop (i + 1) spans) high
AreInOrder-next low spans i high d h lt = rw (drop_more spans i d lt) at h

-- where it stands
pub AreInOrder-first : (low : ℕ) (spans : List Span) (i high : ℕ) (d : Span) → AreInOrder low (drop i spans) high → i < length spans
    → (low ≤ (get_or spans i d).start) × ((get_or spans i d).start ≤ high)
AreInOrder-first low spans i high d h lt =
    let all = AreInOrder-next low spans i high d h lt in
    let more = AreInOrder-ends _ _ _ all.2 in
    (all.0, omega (arith, all.1, more))
