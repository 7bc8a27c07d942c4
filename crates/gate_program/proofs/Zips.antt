-- Lists whose places match, one place more.
use Rattle.std.proofs.Common.{◌≡◌, ℕ, ◌+◌, ◌<◌, List, [], ◌∷◌, ◌++◌, length, map, take, ◌∙◌, ap, sym, subst, get_or}
use Rattle.std.specs.Prelude.{All, string_bytes}
use Rattle.std.specs.List.{AllZip}
use Rattle.std.proofs.lemmas.List.{take_more}
use Rattle.std.proofs.lemmas.List.Elements.{All-head, All-tail}
use Rattle.spdx_requirement.specs.Rows.{Rows}
use Rattle.spdx_policy.specs.Rules.{Rules}
use Rattle.gate_told.specs.declared.breakdowns.Breakdown.{Breakdown}
use Rattle.gate_told.specs.Texts.{telling_in}
use Rattle.gate_program.specs.declared.tellings.TextsOf.{TextsOf}
use Rattle.gate_program.specs.Tellings.{IsBreakdownOf, IsShownIn, judgement_in}
use Rattle.gate_program.specs.Told.{IsTellingOf}

zip_push : {A B : Type 0} (R : A → B → Type 0) (xs : List A) (ys : List B) (x : A) (y : B) → AllZip R xs ys → R x y → AllZip R (xs ++ x ∷ []) (ys ++ y ∷ [])
zip_push R [] [] x y h r = (r, h)
zip_push R [] (b ∷ ys) x y h r = absurd h
zip_push R (a ∷ xs) [] x y h r = absurd h
zip_push R (a ∷ xs) (b ∷ ys) x y h r = (h.0, zip_push R xs ys x y h.1 r)

-- one place more of the first list, with what is pushed to the second
pub one_more : {A B : Type 0} (R : A → B → Type 0) (xs : List A) (i : ℕ) (d x : A) (ys more : List B) (y : B)
    → AllZip R (take i xs) ys → i < length xs → x ≡ get_or xs i d → R x y → more ≡ ys ++ y ∷ [] → AllZip R (take (i + 1) xs) more
one_more {A} {B} R xs i d x ys more y h lt is r e =
    let next : take (i + 1) xs ≡ take i xs ++ x ∷ [] = take_more xs i d lt ∙ ap (λ (z : A). take i xs ++ z ∷ []) (sym is) in
    subst (λ (z : List B). AllZip R (take (i + 1) xs) z) (sym e) (subst (λ (z : List A). AllZip R z (ys ++ y ∷ [])) (sym next) (zip_push R (take i xs) ys x y h r))

-- breakdowns of judgements with their own texts tell of them
pub told_of_each : (c : Rows) (p : Rules) (all : List TextsOf) (breakdowns : List Breakdown) → All (IsShownIn c p) all → AllZip IsBreakdownOf all breakdowns → AllZip (IsTellingOf c p) (map judgement_in all) (map telling_in breakdowns)
told_of_each c p [] [] shown is = is
told_of_each c p [] (d ∷ ds) shown is = absurd is
told_of_each c p (s ∷ ss) [] shown is = absurd is
told_of_each c p (s ∷ ss) (d ∷ ds) shown is =
    let first = All-head (IsShownIn c p) s ss shown in
    ((string_bytes s.shown.reason, first.reason_is, is.0 p first.leaves_are), told_of_each c p ss ds (All-tail (IsShownIn c p) s ss shown) is.1)
