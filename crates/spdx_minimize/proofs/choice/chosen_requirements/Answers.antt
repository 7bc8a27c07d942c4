use Rattle.std.proofs.Common.{rules, arith, refl, ◌≡◌, ◌∙◌, sym, ap, ℕ, zero, suc, ◌+◌, ◌<◌, Bool, true, false, cond, List, [], ◌∷◌, ◌++◌, length, drop, map, get_or}
use Rattle.std.proofs.lemmas.List.{append-nil, length-map, map-append}
use denote.Ref.{Bor}
use Rattle.spdx_requirement.specs.declared.requirement.LicenseReq.{LicenseReq}
use Rattle.spdx_requirement.specs.Items.{Requirement, requirement_of}
use Rattle.spdx_minimize.specs.Choice.{chosen_of}
use Rattle.spdx_evaluation.specs.Requirements.{nows}
use Rattle.spdx_minimize.proofs.Chosen.{chosen_more}
use Rattle.spdx_minimize.proofs.choice.chosen_requirements.Goals as goal
use Rattle.spdx_minimize.proofs.choice.chosen_requirements.Goals.{then-selection-place+in_ok-try_clone+in_ok-push, else-selection-place}

now_at : (ms : List (Bor Requirement)) (i : ℕ) (d : Bor Requirement) → i < length ms → get_or (nows ms) i d.now ≡ (get_or ms i d).now
now_at [] i d h = absurd (omega arith)
now_at (m ∷ ms) zero d h = refl
now_at (m ∷ ms) (suc i) d h = now_at ms i d (omega arith)

members_from : (ms : List (Bor Requirement)) (i : ℕ) → nows (drop i ms) ≡ drop i (nows ms)
members_from ms zero = refl
members_from [] (suc i) = refl
members_from (m ∷ ms) (suc i) = members_from ms i

step : (ms : List (Bor Requirement)) (bs : List Bool) (i : ℕ) (d : Bor Requirement) (b : Bool) → i < length ms → length bs ≡ length ms → get_or bs i false ≡ b → (old new : List Requirement) → new ≡ old ++ cond b ((get_or ms i d).now ∷ []) []
    → (all : List Requirement) → old ++ chosen_of (nows (drop i ms)) (drop i bs) ≡ all → new ++ chosen_of (nows (drop (i + 1) ms)) (drop (i + 1) bs) ≡ all
step ms bs i d b lt each is old new made all before =
    let inside : i < length (nows ms) = omega (arith, lt, length-map ms (λ m. m.now)) in
    let added : new ≡ old ++ cond b (get_or (nows ms) i d.now ∷ []) [] = made ∙ ap (λ (r : Requirement). old ++ cond b (r ∷ []) []) (sym (now_at ms i d lt)) in
    ap (λ (z : List Requirement). new ++ chosen_of z (drop (i + 1) bs)) (members_from ms (i + 1))
    ∙ chosen_more (nows ms) bs i d.now b inside (omega arith) is old new added all (ap (λ (z : List Requirement). old ++ chosen_of z (drop i bs)) (sym (members_from ms i)) ∙ before)

-- a list that is longer than some number holds something
some_member : (ms : List (Bor Requirement)) {i : ℕ} → i < length ms → Bor Requirement
some_member [] h = absurd (omega arith)
some_member (m ∷ ms) h = m

pub loop-place-preserved : goal.loop-place-preserved
loop-place-preserved c = elim c.if-selection-place.branch [
  | then-selection-place+in_ok-try_clone+in_ok-push w ↦
      let copied : requirement_of w.in_ok-try_clone.field-0 ≡ (get_or c.args.members.now c.loop-place.place w.index-members-place.result).now =
      let shown : requirement_of w.in_ok-try_clone.field-0 ≡ w.index-members-place.result.now = search rules in
      shown ∙ ap (λ (m : Bor Requirement). m.now) w.index-members-place.is in
      let made : map requirement_of c.if-selection-place.requirements.items ≡ map requirement_of c.loop-place.requirements.items ++ (get_or c.args.members.now c.loop-place.place w.index-members-place.result).now ∷ [] =
      rw w.requirements-is (ap (λ (z : List LicenseReq). map requirement_of z) w.in_ok-push.ensures.items ∙ map-append requirement_of c.loop-place.requirements.items (w.in_ok-try_clone.field-0 ∷ []) ∙ ap (λ (r : Requirement). map requirement_of c.loop-place.requirements.items ++ r ∷ []) copied) in
      step c.args.members.now c.args.selection.now c.loop-place.place w.index-members-place.result true c.loop-place-test.true c.requires w.if-selection-place.true _ _ made _ c.loop-place.invariant
  | else-selection-place w ↦
      let made : map requirement_of c.if-selection-place.requirements.items ≡ map requirement_of c.loop-place.requirements.items ++ [] = rw w.requirements-is (sym (append-nil _)) in
      step c.args.members.now c.args.selection.now c.loop-place.place (some_member c.args.members.now c.loop-place-test.true) false c.loop-place-test.true c.requires w.if-selection-place.false _ _ made _ c.loop-place.invariant
]
