-- Where each expression is true over what is allowed, there is one choice for all, and each has its own in it.
use Rattle.std.proofs.Common.{◌≡◌, ℕ, zero, suc, ◌+◌, ◌≤◌, Bool, true, false, ◌&&◌, ◌||◌, cond, List, [], ◌∷◌, ◌++◌, Some, length, map, replicate, nat_lt, refl, sym, ◌∙◌, ap, subst, arith}
use Rattle.std.specs.List.{list_any, list_all, find}
use Rattle.std.proofs.lemmas.List.{length-map}
use Rattle.std.proofs.lemmas.Bool.Decides.{nat_tests}
use Rattle.spdx_requirement.specs.Items.{Requirement}
use Rattle.spdx_requirement.specs.Equality.{same_requirement}
use Rattle.spdx_requirement.specs.EqualityLaws.{same_requirement_laws}
use Rattle.spdx_parser.specs.Tree.{Tree, leaves}
use Rattle.selections.specs.Selection.{IsWithin, everything}
use Rattle.spdx_evaluation.specs.Truth.{truth_of}
use Rattle.spdx_minimize.specs.Choice.{first_ones, chosen_of, least_of, selections, without_and_with}
use Rattle.spdx_minimize.specs.GrowthLaws.{truth_grows}
use Rattle.spdx_why.specs.Missing.{answer_in}
use Rattle.spdx_why.specs.Least.{first_candidate, firsts_of, with_chosen, suffices_in, numbers_of, chosen, too_many, choice_by, choice_of}
use Rattle.package_choices.specs.Choice.{Offered, allowed_of, all_allowed, members_of, number_of, asked, asked_all, met, met_in, is_true_in, suffices_for, own_in}
use Rattle.package_choices.specs.Members.{grown}
use Rattle.package_choices.specs.Passes.{EachPasses, AreChosen}
use Rattle.package_choices.proofs.Growing.{among, firsts_grown}
use Rattle.package_choices.proofs.Meeting.{length-met}

or_true : (a b : Bool) → b ≡ true → (a || b) ≡ true
or_true true b e = refl
or_true false b e = e

or_first : (a b : Bool) → a ≡ true → (a || b) ≡ true
or_first true b e = refl
or_first false b e = let bad : false ≡ true = e in cc

and_both : (a b : Bool) → a ≡ true → b ≡ true → (a && b) ≡ true
and_both true b e f = f
and_both false b e f = e

and_first : (a b : Bool) → (a && b) ≡ true → a ≡ true
and_first true b e = refl
and_first false b e = e

and_second : (a b : Bool) → (a && b) ≡ true → b ≡ true
and_second true b e = e
and_second false b e = let bad : false ≡ true = e in cc

-- what was among some is among more
among_more : (ms ns : List Requirement) (r : Requirement) → among ms r ≡ true → among (ms ++ ns) r ≡ true
among_more [] ns r e = let bad : false ≡ true = e in cc
among_more (m ∷ ms) ns r e = elim (same_requirement m r) as (λ (b : Bool). (b || among ms r) ≡ true → (b || among (ms ++ ns) r) ≡ true) [ true ↦ λ f. refl | false ↦ λ f. among_more ms ns r f ] e

among_last : (ms : List Requirement) (r : Requirement) → among (ms ++ r ∷ []) r ≡ true
among_last [] r = or_first (same_requirement r r) false (same_requirement_laws.refl r)
among_last (m ∷ ms) r = or_true (same_requirement m r) (among (ms ++ r ∷ []) r) (among_last ms r)

among_grown : (ms xs : List Requirement) (r : Requirement) → among ms r ≡ true → among (grown ms xs) r ≡ true
among_grown ms [] r e = e
among_grown ms (x ∷ xs) r e = among_grown (ms ++ cond (among ms x) [] (x ∷ [])) xs r (among_more ms (cond (among ms x) [] (x ∷ [])) r e)

one_there : (ms : List Requirement) (x : Requirement) (seen : Bool) → among ms x ≡ seen → among (ms ++ cond seen [] (x ∷ [])) x ≡ true
one_there ms x true e = among_more ms [] x e
one_there ms x false e = among_last ms x

-- each is among the distinct ones
each_grown : (ms xs : List Requirement) → list_all (among (grown ms xs)) xs ≡ true
each_grown ms [] = refl
each_grown ms (x ∷ xs) =
    let more = ms ++ cond (among ms x) [] (x ∷ []) in
    and_both (among (grown more xs) x) (list_all (among (grown more xs)) xs) (among_grown more xs x (one_there ms x (among ms x) refl)) (each_grown more xs)

each_first : (xs : List Requirement) → list_all (among (first_ones [] xs)) xs ≡ true
each_first xs = subst (λ (z : List Requirement). list_all (among z) xs ≡ true) (firsts_grown xs) (each_grown [] xs)

parts_first : (p : Requirement → Bool) (xs ys : List Requirement) → list_all p (xs ++ ys) ≡ true → list_all p xs ≡ true
parts_first p [] ys e = refl
parts_first p (x ∷ xs) ys e = and_both (p x) (list_all p xs) (and_first (p x) (list_all p (xs ++ ys)) e) (parts_first p xs ys (and_second (p x) (list_all p (xs ++ ys)) e))

parts_second : (p : Requirement → Bool) (xs ys : List Requirement) → list_all p (xs ++ ys) ≡ true → list_all p ys ≡ true
parts_second p [] ys e = e
parts_second p (x ∷ xs) ys e = parts_second p xs ys (and_second (p x) (list_all p (xs ++ ys)) e)

next_answer : (n k : ℕ) → answer_in (everything n) k ≡ true → answer_in (everything (suc n)) (k + 1) ≡ true
next_answer n k e = ap (answer_in (everything (suc n))) (let same : k + 1 ≡ suc k = omega arith in same) ∙ e

-- the member of what is among them is chosen, where all are
number_there : (ms : List Requirement) (r : Requirement) → among ms r ≡ true → answer_in (everything (length ms)) (number_of ms r) ≡ true
number_there [] r e = let bad : false ≡ true = e in cc
number_there (m ∷ ms) r e =
    elim (same_requirement m r) as (λ (b : Bool). (b || among ms r) ≡ true → answer_in (everything (suc (length ms))) (cond b 0 (number_of ms r + 1)) ≡ true) [
      | true ↦ λ f. refl
      | false ↦ λ f. next_answer (length ms) (number_of ms r) (number_there ms r f)
    ] e

within_met : (ms : List Requirement) (bs : List Bool) (rs : List Requirement) → length bs ≡ length rs → list_all (among ms) (chosen_of rs bs) ≡ true
    → IsWithin bs (met bs (map (number_of ms) rs) (everything (length ms)))
within_met ms [] rs e h = tt
within_met ms (b ∷ bs) [] e h = absurd (omega arith)
within_met ms (true ∷ bs) (r ∷ rs) e h = (
  (λ f. number_there ms r (and_first (among ms r) (list_all (among ms) (chosen_of rs bs)) h)),
  within_met ms bs rs (omega arith) (and_second (among ms r) (list_all (among ms) (chosen_of rs bs)) h),
)
within_met ms (false ∷ bs) (r ∷ rs) e h = ((λ f. f), within_met ms bs rs (omega arith) h)

all_suffice : (ms : List Requirement) (os : List Offered) → EachPasses os → list_all (among ms) (all_allowed os) ≡ true → suffices_for (map (asked ms) os) (everything (length ms)) ≡ true
all_suffice ms [] h e = refl
all_suffice ms (o ∷ os) h e =
    and_both (is_true_in (everything (length ms)) (asked ms o)) (suffices_for (map (asked ms) os) (everything (length ms)))
    (truth_grows o.tree o.allowed (met_in (asked ms o) (everything (length ms))) (within_met ms o.allowed (leaves o.tree) h.0.each (parts_first (among ms) (allowed_of o) (all_allowed os) e)) h.0.true_there)
    (all_suffice ms os h.1 (parts_second (among ms) (allowed_of o) (all_allowed os) e))

-- all members suffice
pub everything_suffices : (os : List Offered) → EachPasses os → suffices_for (asked_all os) (everything (length (members_of os))) ≡ true
everything_suffices os h = all_suffice (members_of os) os h (each_first (all_allowed os))

first_there : (rs : List Requirement) (cs : List Bool) (r : Requirement) → among (chosen_of rs cs) r ≡ true → answer_in (everything (length rs)) (first_candidate rs cs r) ≡ true
first_there [] cs r e = let bad : false ≡ true = e in cc
first_there (q ∷ qs) [] r e = let bad : false ≡ true = e in cc
first_there (q ∷ qs) (false ∷ cs) r e = next_answer (length qs) (first_candidate qs cs r) (first_there qs cs r e)
first_there (q ∷ qs) (true ∷ cs) r e =
    elim (same_requirement q r) as (λ (b : Bool). (b || among (chosen_of qs cs) r) ≡ true → answer_in (everything (suc (length qs))) (cond b 0 (first_candidate qs cs r + 1)) ≡ true) [
      | true ↦ λ f. refl
      | false ↦ λ f. next_answer (length qs) (first_candidate qs cs r) (first_there qs cs r f)
    ] e

each_self : (ys xs : List Requirement) → ((r : Requirement) → among xs r ≡ true → among ys r ≡ true) → list_all (among ys) xs ≡ true
each_self ys [] h = refl
each_self ys (x ∷ xs) h =
    and_both (among ys x) (list_all (among ys) xs) (h x (or_first (same_requirement x x) (among xs x) (same_requirement_laws.refl x)))
    (each_self ys xs (λ r e. h r (or_true (same_requirement x r) (among xs r) e)))

within_firsts : (all : List Requirement) (whole : List Bool) (n : ℕ) (cs : List Bool) (rs : List Requirement) → length cs ≡ length rs → length cs ≡ n → list_all (among (chosen_of all whole)) (chosen_of rs cs) ≡ true
    → IsWithin cs (with_chosen (replicate n false) (map (first_candidate all whole) rs) (everything (length all)))
within_firsts all whole zero [] rs e f h = tt
within_firsts all whole (suc n) [] rs e f h = absurd (omega arith)
within_firsts all whole zero (c ∷ cs) rs e f h = absurd (omega arith)
within_firsts all whole (suc n) (c ∷ cs) [] e f h = absurd (omega arith)
within_firsts all whole (suc n) (true ∷ cs) (r ∷ rs) e f h = (
  (λ g. first_there all whole r (and_first (among (chosen_of all whole) r) (list_all (among (chosen_of all whole)) (chosen_of rs cs)) h)),
  within_firsts all whole n cs rs (omega arith) (omega arith) (and_second (among (chosen_of all whole) r) (list_all (among (chosen_of all whole)) (chosen_of rs cs)) h),
)
within_firsts all whole (suc n) (false ∷ cs) (r ∷ rs) e f h = ((λ g. let bad : false ≡ true = g in cc), within_firsts all whole n cs rs (omega arith) (omega arith) h)

wider : (p : List Bool → Bool) (ss : List (List Bool)) → list_any (λ s. p (true ∷ s)) ss ≡ true → list_any p (without_and_with ss) ≡ true
wider p [] e = e
wider p (s ∷ ss) e =
    let more = list_any p (without_and_with ss) in
    or_true (p (false ∷ s)) (p (true ∷ s) || more)
    (elim (p (true ∷ s)) as (λ (b : Bool). (b || list_any (λ z. p (true ∷ z)) ss) ≡ true → (b || more) ≡ true) [ true ↦ λ f. refl | false ↦ λ f. wider p ss f ] e)

all_among : (n : ℕ) (p : List Bool → Bool) → p (everything n) ≡ true → list_any p (selections n) ≡ true
all_among zero p e = or_first (p []) false e
all_among (suc n) p e = wider p (selections n) (all_among n (λ s. p (true ∷ s)) e)

found : (p : List Bool → Bool) (ss : List (List Bool)) → list_any p ss ≡ true → (s : List Bool) × (find p ss ≡ Some s)
found p [] e = let bad : false ≡ true = e in cc
found p (s ∷ ss) e = elim (p s) as (λ (b : Bool). (b || list_any p ss) ≡ true → (z : List Bool) × (cond b (Some s) (find p ss) ≡ Some z)) [ true ↦ λ f. (s, refl) | false ↦ λ f. found p ss f ] e

few_enough : (n : ℕ) → n ≤ 1024 → nat_lt 1024 n ≡ false
few_enough n h = grind (arith, nat_tests, h)

length-nothing : (n : ℕ) → length (replicate n false) ≡ n
length-nothing zero = refl
length-nothing (suc n) = ap suc (length-nothing n)

-- where an expression is true over some candidates, it has a choice among them
choice_there : (t : Tree) (n : ℕ) (cs : List Bool) → n ≡ length (leaves t) → n ≤ 1024 → length cs ≡ n → truth_of t cs ≡ true → (own : List ℕ) × (choice_of t (replicate n false) cs ≡ chosen own)
choice_there t n cs each few many is =
    let none = replicate n false in
    let whole : list_all (among (chosen_of (leaves t) cs)) (chosen_of (leaves t) cs) ≡ true = each_self (chosen_of (leaves t) cs) (chosen_of (leaves t) cs) (λ r e. e) in
    let within = within_firsts (leaves t) cs n cs (leaves t) (many ∙ each) many whole in
    let suffices : suffices_in t none cs (everything (length (leaves t))) ≡ true = truth_grows t cs (with_chosen none (firsts_of t cs) (everything (length (leaves t)))) within is in
    let long : length none ≡ n = length-nothing n in
    let there : suffices_in t none cs (everything (length none)) ≡ true = ap (λ (k : ℕ). suffices_in t none cs (everything k)) (long ∙ each) ∙ suffices in
    let (s, least) = found (suffices_in t none cs) (selections (length none)) (all_among (length none) (suffices_in t none cs) there) in (
      numbers_of s,
      ap (λ (b : Bool). cond b (too_many (length none)) (choice_by (least_of (suffices_in t none cs) (length none)))) (few_enough (length none) (omega (arith, long, few)))
          ∙ ap choice_by least,
    )

-- each expression has a choice in a sufficient one
pub own_there : (ms : List Requirement) (os : List Offered) (s : List Bool) → EachPasses os → suffices_for (map (asked ms) os) s ≡ true → AreChosen (map (own_in s) (map (asked ms) os))
own_there ms [] s h e = ([], refl)
own_there ms (o ∷ os) s h e =
    let q = asked ms o in
    let numbered : length q.numbers ≡ length o.allowed = length-map (leaves o.tree) (number_of ms) ∙ sym h.0.each in
    let one = choice_there o.tree (length o.allowed) (met_in q s) h.0.each h.0.few (length-met o.allowed q.numbers s numbered) (and_first (is_true_in s q) (suffices_for (map (asked ms) os) s) e) in
    let more = own_there ms os s h.1 (and_second (is_true_in s q) (suffices_for (map (asked ms) os) s) e) in (
      one.0 ∷ more.0,
      ap (λ z. z ∷ map (own_in s) (map (asked ms) os)) one.1 ∙ ap (λ z. chosen one.0 ∷ z) more.1,
    )
