-- The parts of one choice for all.
use Rattle.std.proofs.Common.{◌≡◌, ℕ, zero, suc, ◌+◌, ◌≤◌, Bool, true, false, cond, nat_lt, List, [], ◌∷◌, ◌++◌, Option, Some, None, length, map, drop, refl, sym, ◌∙◌, ap, add-one, append_assoc, arith}
use Rattle.std.specs.Prelude.{slice_get}
use Rattle.std.specs.Global.{Vec}
use Rattle.std.proofs.lemmas.Bool.{true≢false}
use Rattle.std.proofs.lemmas.List.{append-nil, drop_all, length-map, map-append}
use Rattle.spdx_minimize.specs.Choice.{least_of}
use Rattle.spdx_why.specs.declared.choice.Remedy.{Remedy}
use Rattle.spdx_why.specs.declared.choice.Remedy.TheVariants.{Accept, Unmet, TooMany}
use Rattle.spdx_why.specs.Least.{Choice, advised, chosen, unmet, too_many}
use Rattle.spdx_gate.specs.declared.judged.Judged.{Judged}
use Rattle.package_choices.specs.Choice as choice
use Rattle.package_choices.specs.Choice.{Asked, Offered, Told, asked, asked_all, choices_by, joint_of, members_of, own_in, suffices_for, together}
use Rattle.package_choices.specs.Passes.{EachPasses, IsTogether}
use Rattle.package_choices.specs.Texts.{judged_offer}
use Rattle.spdx_licensee.specs.declared.texts.RequirementTexts.{RequirementTexts}
use Rattle.choice_program.specs.Named.{Named, named, shown, shown_all, shown_in}
use Rattle.choice_program.specs.declared.choosing.ChoiceTrouble.TheVariants as trouble
use Rattle.choice_program.specs.declared.unchosen.Why.TheVariants as why
use Rattle.choice_program.specs.declared.picked.Picked.{Picked}
use Rattle.choice_program.specs.Picked.{AreJointParts, AreTogether, IsNoJoint, Pick, judged_in, numbers_by, numbers_in, offers_in, part_at, parts_from, pick_of, requirements_of}

-- ---- what the choice for all says

pub all_chosen : (os : List Offered) (v : Vec Remedy) → together (map advised v.items) ≡ joint_of os → IsTogether (together (map advised v.items)) → AreTogether os v.items
all_chosen os v is all = (all.0, all.1, sym is ∙ ap together all.1)

pub so_many : (os : List Offered) (n : ℕ) → choice.too_many n ≡ joint_of os → IsNoJoint os (trouble.NoneTogether why.TooMany)
so_many os n is = (refl, (n, sym is))

pub never_unmet : (os : List Offered) → (EachPasses os → IsTogether choice.unmet) → EachPasses os → IsNoJoint os (trouble.NoneTogether why.NotAllowed)
never_unmet os all each = absurd (all each)

-- ---- its parts

abbrev numbers_of : Choice → List ℕ
numbers_of (chosen ns) = ns
numbers_of unmet = []
numbers_of (too_many n) = []

abbrev is_chosen : Choice → Bool
is_chosen (chosen ns) = true
is_chosen unmet = false
is_chosen (too_many n) = false

abbrev is_together : Told → Bool
is_together (together choices) = true
is_together choice.unmet = false
is_together (choice.too_many n) = false

abbrev choices_in : Told → List Choice
choices_in (together choices) = choices
choices_in choice.unmet = []
choices_in (choice.too_many n) = []

abbrev first_or : {A : Type 0} → A → List A → A
first_or d [] = d
first_or d (x ∷ xs) = x

abbrev behind : {A : Type 0} → List A → List A
behind [] = []
behind (x ∷ xs) = xs

longer : {A : Type 0} (x : A) (xs : List A) → [] ≡ x ∷ xs → ⊥
longer x xs e =
    let l : 0 ≡ suc (length xs) = ap length e in
    absurd (omega (arith, l))

got : {A : Type 0} (all : List A) (n : ℕ) (r : A) (rs : List A) → drop n all ≡ r ∷ rs → slice_get all n ≡ Some r
got [] zero r rs e = absurd (longer r rs e)
got [] (suc n) r rs e = absurd (longer r rs e)
got (x ∷ xs) zero r rs e = ap (λ ys. Some (first_or r ys)) e
got (x ∷ xs) (suc n) r rs e = got xs n r rs e

behind_at : {A : Type 0} (all : List A) (n : ℕ) (r : A) (rs : List A) → drop n all ≡ r ∷ rs → drop (suc n) all ≡ rs
behind_at [] zero r rs e = absurd (longer r rs e)
behind_at [] (suc n) r rs e = absurd (longer r rs e)
behind_at (x ∷ xs) zero r rs e = ap behind e
behind_at (x ∷ xs) (suc n) r rs e = behind_at xs n r rs e

numbers_same : (r : Remedy) (ns : List ℕ) → advised r ≡ chosen ns → numbers_by (Some r) ≡ ns
numbers_same (Accept v) ns e = ap numbers_of e
numbers_same Unmet ns e = absurd (true≢false (sym (ap is_chosen e)))
numbers_same (TooMany n) ns e = absurd (true≢false (sym (ap is_chosen e)))

same_judged : (all : List Remedy) (k : ℕ) (own : List Pick) → judged_in (parts_from all k own) ≡ judged_in own
same_judged all k [] = refl
same_judged all k (x ∷ xs) = ap (λ (z : List Judged). x.judged ∷ z) (same_judged all (suc k) xs)

numbers_there : (all : List Remedy) (k : ℕ) (rs : List Remedy) (own : List Pick) (numbers : List (List ℕ)) → drop k all ≡ rs → map advised rs ≡ map chosen numbers → length numbers ≡ length own
    → numbers_in (parts_from all k own) ≡ numbers
numbers_there all k rs [] [] at is long = refl
numbers_there all k rs [] (n ∷ ns) at is long = absurd (omega (arith, long))
numbers_there all k rs (x ∷ xs) [] at is long = absurd (omega (arith, long))
numbers_there all k [] (x ∷ xs) (n ∷ ns) at is long = absurd (longer (chosen n) (map chosen ns) is)
numbers_there all k (r ∷ rs) (x ∷ xs) (n ∷ ns) at is long =
    let here : numbers_by (slice_get all k) ≡ n = ap numbers_by (got all k r rs at) ∙ numbers_same r n (ap (first_or (advised r)) is) in
    let less : length ns ≡ length xs = omega (arith, long) in
    ap (λ (z : List ℕ). z ∷ numbers_in (parts_from all (suc k) xs)) here
    ∙ ap (λ (z : List (List ℕ)). n ∷ z) (numbers_there all (suc k) rs xs ns (behind_at all k r rs at) (ap behind is) less)

by_told : (b : Bool) (m : ℕ) (o : Option (List Bool)) (qs : List Asked) (choices : List Choice) → cond b (choice.too_many m) (choices_by qs o) ≡ together choices → length choices ≡ length qs
by_told true m o qs choices e = absurd (true≢false (sym (ap is_together e)))
by_told false m None qs choices e = absurd (true≢false (sym (ap is_together e)))
by_told false m (Some s) qs choices e = sym (ap (λ (t : Told). length (choices_in t)) e) ∙ length-map qs (own_in s)

as_many : (os : List Offered) (choices : List Choice) → joint_of os ≡ together choices → length choices ≡ length os
as_many os choices e =
    let ms = members_of os in
    let qs = asked_all os in
    by_told (nat_lt 1024 (length ms)) (length ms) (least_of (suffices_for qs) (length ms)) qs choices e ∙ length-map os (asked ms)

pub joint_parts : (own : List Pick) (rs : List Remedy) → AreTogether (offers_in own) rs → AreJointParts own (parts_from rs 0 own)
joint_parts own rs t =
    let long : length t.0 ≡ length own =
    sym (length-map t.0 chosen) ∙ as_many (offers_in own) (map chosen t.0) t.2 ∙ length-map (judged_in own) judged_offer ∙ length-map own (λ (x : Pick). x.judged) in
    record {
      of_the_same = same_judged rs 0 own;
      joint = t.2 ∙ ap (λ (z : List (List ℕ)). together (map chosen z)) (sym (numbers_there rs 0 rs own t.0 refl t.1 long));
    }

-- ---- one part more

abbrev pub told_from : List Remedy → ℕ → List Pick → List (List Named)
told_from rs n own = map (map named) (map requirements_of (parts_from rs n own))

pub one_told : (rs : List Remedy) (own : List Picked) (n : ℕ) (x : Picked) (texts : Vec RequirementTexts) (all new : List (Vec RequirementTexts)) (whole : List (List Named))
    → new ≡ all ++ texts ∷ [] → map shown texts.items ≡ map named (requirements_of (part_at rs n (pick_of x))) → drop n own ≡ x ∷ drop (suc n) own
    → shown_all all ++ told_from rs n (map pick_of (drop n own)) ≡ whole → shown_all new ++ told_from rs (n + 1) (map pick_of (drop (n + 1) own)) ≡ whole
one_told rs own n x texts all new whole e is first before =
    let rest = told_from rs (suc n) (map pick_of (drop (suc n) own)) in
    ap (λ (m : ℕ). shown_all new ++ told_from rs m (map pick_of (drop m own))) (add-one n)
    ∙ ap (λ (ys : List (Vec RequirementTexts)). shown_all ys ++ rest) e
    ∙ ap (λ (ys : List (List Named)). ys ++ rest) (map-append shown_in all (texts ∷ []))
    ∙ append_assoc (shown_all all) (map shown texts.items ∷ []) rest
    ∙ ap (λ (y : List Named). shown_all all ++ y ∷ rest) is
    ∙ ap (λ (ys : List Picked). shown_all all ++ told_from rs n (map pick_of ys)) (sym first)
    ∙ before

-- all of them are told
pub all_told : (rs : List Remedy) (own : List Picked) (n : ℕ) (all : List (Vec RequirementTexts)) (whole : List (List Named)) → length own ≤ n
    → shown_all all ++ told_from rs n (map pick_of (drop n own)) ≡ whole → shown_all all ≡ whole
all_told rs own n all whole le e =
    sym (append-nil (shown_all all)) ∙ ap (λ (ys : List Picked). shown_all all ++ told_from rs n (map pick_of ys)) (sym (drop_all n own le)) ∙ e
