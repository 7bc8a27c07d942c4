-- The one choice.
use Rattle.std.proofs.Common.{◌≡◌, ℕ, zero, suc, ◌≤◌, ◌<◌, Bool, true, false, cond, List, length, map, nat_lt, refl, sym, ◌∙◌, ap, subst, arith}
use Rattle.std.proofs.lemmas.Bool.Decides.{nat_tests}
use Rattle.spdx_requirement.specs.Items.{Requirement}
use Rattle.selections.specs.Selection.{IsLeast, NoneSuffices, everything}
use Rattle.spdx_minimize.specs.Choice.{least_of}
use Rattle.spdx_minimize.proofs.Selections.{IsLeast-least_of, none_found}
use Rattle.package_choices.specs.Choice.{Asked, own_in, suffices_for, choices_by, joint_among, together, unmet, too_many}

few_enough : (n : ℕ) → n ≤ 1024 → nat_lt 1024 n ≡ false
few_enough n h = grind (arith, nat_tests, h)

pub joint_least : (ms : List Requirement) (qs : List Asked) (s : List Bool) → length ms ≤ 1024 → IsLeast (suffices_for qs) (length ms) s → joint_among ms qs ≡ together (map (own_in s) qs)
joint_least ms qs s few least =
    ap (λ (b : Bool). cond b (too_many (length ms)) (choices_by qs (least_of (suffices_for qs) (length ms)))) (few_enough (length ms) few)
    ∙ ap (choices_by qs) (IsLeast-least_of (suffices_for qs) (length ms) s least)

pub joint_unmet : (ms : List Requirement) (qs : List Asked) → length ms ≤ 1024 → NoneSuffices (suffices_for qs) (length ms) → joint_among ms qs ≡ unmet
joint_unmet ms qs few none =
    ap (λ (b : Bool). cond b (too_many (length ms)) (choices_by qs (least_of (suffices_for qs) (length ms)))) (few_enough (length ms) few)
    ∙ ap (choices_by qs) (none_found (suffices_for qs) (length ms) none)

many : (n : ℕ) → 1024 < n → nat_lt 1024 n ≡ true
many n h = grind (arith, nat_tests, h)

pub joint_many : (ms : List Requirement) (qs : List Asked) → 1024 < length ms → joint_among ms qs ≡ too_many (length ms)
joint_many ms qs h = ap (λ (b : Bool). cond b (too_many (length ms)) (choices_by qs (least_of (suffices_for qs) (length ms)))) (many (length ms) h)

-- what is said of a judge's choices is said of those that it was made for
pub of_judge : (P : (List Bool → Bool) → ℕ → Type 0) (qs qs2 : List Asked) (n n2 : ℕ) → qs ≡ qs2 → n ≡ n2 → P (suffices_for qs) n → P (suffices_for qs2) n2
of_judge P qs qs2 n n2 e f h = subst (λ (k : ℕ). P (suffices_for qs2) k) f (subst (λ (z : List Asked). P (suffices_for z) n) e h)

long : (n : ℕ) → length (everything n) ≡ n
long zero = refl
long (suc n) = ap suc (long n)

-- what all members suffice for is not refused
pub never : (suffices : List Bool → Bool) (n : ℕ) → NoneSuffices suffices n → suffices (everything n) ≡ true → ⊥
never suffices n none all = let bad : true ≡ false = sym all ∙ none (everything n) (long n) in cc
