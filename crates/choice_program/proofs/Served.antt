-- What a least choice among candidates says of an expression.
use Rattle.std.proofs.Common.{◌≡◌, ℕ, zero, suc, ◌+◌, ◌<◌, ◌≤◌, ◌==◌, Bool, true, false, ◌&&◌, ◌||◌, cond, nat_lt, List, [], ◌∷◌, Option, Some, None, length, map, replicate, refl, sym, ◌∙◌, ap, subst, arith}
use Rattle.std.specs.Prelude.{All, slice_get}
use Rattle.std.specs.List.{find, list_all, list_any}
use Rattle.std.proofs.lemmas.Bool.{true≢false}
use Rattle.std.proofs.lemmas.List.{length-replicate}
use Rattle.std.proofs.lemmas.Bool.Decides.{nat_tests}
use Rattle.spdx_requirement.specs.Items.{Requirement}
use Rattle.spdx_requirement.specs.Equality.{same_requirement}
use Rattle.spdx_requirement.specs.EqualityLaws.{same_requirement_laws}
use Rattle.spdx_parser.specs.Tree.{Tree, leaves}
use Rattle.selections.specs.Selection.{IsLeast, IsWithin, everything}
use Rattle.selections.proofs.Only.{needs_each}
use Rattle.spdx_evaluation.specs.Truth.{holds, truth_of}
use Rattle.spdx_minimize.specs.Choice.{chosen_of, least_of, selections, without_and_with}
use Rattle.spdx_minimize.specs.GrowthLaws.{truth_grows}
use Rattle.spdx_minimize.proofs.Selections.{least_of-IsLeast}
use Rattle.spdx_why.specs.Missing.{answer_in}
use Rattle.spdx_why.specs.Least.{Choice, choice_by, choice_of, chosen, first_candidate, firsts_of, numbers_of, suffices_in, too_many, unmet, with_chosen}
use Rattle.spdx_why.proofs.Chosen.{only_candidates}
use Rattle.choice_program.specs.Agreed.{is_among}
use Rattle.choice_program.specs.Picked.{numbered}
use Rattle.choice_program.proofs.Numbers.{all_numbered, among_numbered, and_parts, number_there, of_all, or_first, or_true}

-- ---- what serves a requirement

-- a candidate that is chosen and is the same requirement
pub record Served (rs : List Requirement) (cs selection : List Bool) (r : Requirement) : Type 0 where
  pub number : ℕ
  pub one : Requirement
  pub there : slice_get rs number ≡ Some one
  pub candidate : answer_in cs number ≡ true
  pub chosen : answer_in selection number ≡ true
  pub same : same_requirement one r ≡ true

next_answer : (s : Bool) (ss : List Bool) (n : ℕ) → answer_in (s ∷ ss) (n + 1) ≡ answer_in ss n
next_answer s ss n = ap (answer_in (s ∷ ss)) (let e : n + 1 ≡ suc n = omega arith in e)

pub served : (rs : List Requirement) (cs selection : List Bool) (r : Requirement) → length selection ≡ length rs → answer_in selection (first_candidate rs cs r) ≡ true → Served rs cs selection r
served [] cs [] r e h = let bad : false ≡ true = h in cc
served [] cs (s ∷ ss) r e h = absurd (omega (arith, e))
served (q ∷ qs) cs [] r e h = absurd (omega (arith, e))
served (q ∷ qs) [] (s ∷ ss) r e h =
    let k = served qs [] ss r (omega (arith, e)) (sym (next_answer s ss (first_candidate qs [] r)) ∙ h) in
    let bad : false ≡ true = k.candidate in
    cc
served (q ∷ qs) (c ∷ cs) (s ∷ ss) r e h = step (λ there. served qs cs ss r (omega (arith, e)) there) (c && same_requirement q r) refl
  where
    later : Served qs cs ss r → Served (q ∷ qs) (c ∷ cs) (s ∷ ss) r
    later k = record { number = suc k.number; one = k.one; there = k.there; candidate = k.candidate; chosen = k.chosen; same = k.same }

    step : (answer_in ss (first_candidate qs cs r) ≡ true → Served qs cs ss r) → (b : Bool) → (c && same_requirement q r) ≡ b → Served (q ∷ qs) (c ∷ cs) (s ∷ ss) r
    step rest true is = record {
      number = 0;
      one = q;
      there = refl;
      candidate = (and_parts c (same_requirement q r) is).0;
      chosen = sym (ap (λ (b : Bool). answer_in (s ∷ ss) (cond b 0 (first_candidate qs cs r + 1))) is) ∙ h;
      same = (and_parts c (same_requirement q r) is).1;
    }
    step rest false is = later (rest (sym (next_answer s ss (first_candidate qs cs r)) ∙ (sym (ap (λ (b : Bool). answer_in (s ∷ ss) (cond b 0 (first_candidate qs cs r + 1))) is) ∙ h)))

-- where nothing is accepted before, what is met passes a test that whatever a chosen candidate serves passes
pub answers_within : (g : Requirement → Bool) (rs : List Requirement) (cs selection : List Bool) (n : ℕ) (qs : List Requirement) → n ≡ length qs
    → ((i : ℕ) → (r : Requirement) → slice_get qs i ≡ Some r → answer_in selection (first_candidate rs cs r) ≡ true → g r ≡ true)
    → IsWithin (with_chosen (replicate n false) (map (first_candidate rs cs) qs) selection) (map g qs)
answers_within g rs cs selection zero [] e h = tt
answers_within g rs cs selection zero (q ∷ qs) e h = absurd (omega (arith, e))
answers_within g rs cs selection (suc n) [] e h = absurd (omega (arith, e))
answers_within g rs cs selection (suc n) (q ∷ qs) e h =
    (h 0 q refl, answers_within g rs cs selection n qs (omega (arith, e)) (λ i r at is. h (suc i) r at is))

-- ---- a choice that is had

pub record Had (t : Tree) (none cs : List Bool) (numbers : List ℕ) : Type 0 where
  pub selection : List Bool
  pub least : IsLeast (suffices_in t none cs) (length none) selection
  pub numbers_are : numbers ≡ numbers_of selection
  pub few : length none ≤ 1024

abbrev is_chosen : Choice → Bool
is_chosen (chosen ns) = true
is_chosen unmet = false
is_chosen (too_many n) = false

abbrev in_choice : Choice → List ℕ
in_choice (chosen ns) = ns
in_choice unmet = []
in_choice (too_many n) = []

few_enough : (n : ℕ) → nat_lt 1024 n ≡ false → n ≤ 1024
few_enough n e = grind (arith, nat_tests, e)

pub had : (t : Tree) (none cs : List Bool) (numbers : List ℕ) → choice_of t none cs ≡ chosen numbers → Had t none cs numbers
had t none cs numbers e = by (nat_lt 1024 (length none)) (least_of (suffices_in t none cs) (length none)) refl refl e
  where
    by : (b : Bool) (o : Option (List Bool)) → nat_lt 1024 (length none) ≡ b → least_of (suffices_in t none cs) (length none) ≡ o → cond b (too_many (length none)) (choice_by o) ≡ chosen numbers → Had t none cs numbers
    by true o f g h = absurd (true≢false (sym (ap is_chosen h)))
    by false None f g h = absurd (true≢false (sym (ap is_chosen h)))
    by false (Some s) f g h = record {
      selection = s;
      least = least_of-IsLeast (suffices_in t none cs) (length none) s g;
      numbers_are = sym (ap in_choice h);
      few = few_enough (length none) f;
    }

-- the choice makes the expression true over a test that whatever a chosen candidate serves passes
pub true_over : (g : Requirement → Bool) (t : Tree) (n : ℕ) (cs : List Bool) (numbers : List ℕ) (h : Had t (replicate n false) cs numbers) → n ≡ length (leaves t)
    → ((i : ℕ) → (r : Requirement) → slice_get (leaves t) i ≡ Some r → Served (leaves t) cs h.selection r → g r ≡ true) → holds g t ≡ true
true_over g t n cs numbers h each serves =
    let long : length h.selection ≡ length (leaves t) = h.least.each_member ∙ length-replicate n false ∙ each in
    truth_grows t (with_chosen (replicate n false) (firsts_of t cs) h.selection) (map g (leaves t))
    (answers_within g (leaves t) cs h.selection n (leaves t) each (λ i r at is. serves i r at (served (leaves t) cs h.selection r long is)))
    h.least.sufficient

-- its requirements make the expression true
pub choice_suffices : (t : Tree) (n : ℕ) (cs : List Bool) (numbers : List ℕ) → Had t (replicate n false) cs numbers → n ≡ length (leaves t) → holds (is_among (numbered numbers 0 (leaves t))) t ≡ true
choice_suffices t n cs numbers h each =
    true_over (is_among (numbered numbers 0 (leaves t))) t n cs numbers h each (λ i r at s.
    let there : list_any (λ m. m == 0 + s.number) numbers ≡ true = subst (λ (z : List ℕ). list_any (λ m. m == 0 + s.number) z ≡ true) (sym h.numbers_are) (number_there h.selection 0 s.number s.chosen) in
    among_numbered numbers 0 (leaves t) s.number s.one r s.there there s.same)

-- each of them is a candidate
pub choice_among : (P : Requirement → Type 0) (t : Tree) (n : ℕ) (cs : List Bool) (numbers : List ℕ) → Had t (replicate n false) cs numbers → n ≡ length (leaves t)
    → ((k : ℕ) → (q : Requirement) → slice_get (leaves t) k ≡ Some q → answer_in cs k ≡ true → P q) → All P (numbered numbers 0 (leaves t))
choice_among P t n cs numbers h each is =
    let none = replicate n false in
    let as_many : length none ≡ length (leaves t) = length-replicate n false ∙ each in
    let only : list_all (answer_in cs) numbers ≡ true =
    ap (λ (z : List ℕ). list_all (answer_in cs) z) h.numbers_are
    ∙ only_candidates t none cs h.selection as_many h.least (needs_each (suffices_in t none cs) (length none) h.selection h.least) in
    all_numbered P numbers 0 (leaves t) (λ k q at there.
    let same : 0 + k ≡ k = omega arith in
    is k q at (of_all (answer_in cs) numbers k only (subst (λ (m : ℕ). list_any (λ j. j == m) numbers ≡ true) same there)))

-- ---- a choice that isn't had

abbrev among : List Requirement → Requirement → Bool
among ms r = list_any (λ m. same_requirement m r) ms

and_both : (a b : Bool) → a ≡ true → b ≡ true → (a && b) ≡ true
and_both true b e f = f
and_both false b e f = let bad : false ≡ true = e in cc

all_there : (n k : ℕ) → answer_in (everything n) k ≡ true → answer_in (everything (suc n)) (k + 1) ≡ true
all_there n k e = ap (answer_in (everything (suc n))) (let same : k + 1 ≡ suc k = omega arith in same) ∙ e

first_there : (rs : List Requirement) (cs : List Bool) (r : Requirement) → among (chosen_of rs cs) r ≡ true → answer_in (everything (length rs)) (first_candidate rs cs r) ≡ true
first_there [] cs r e = let bad : false ≡ true = e in cc
first_there (q ∷ qs) [] r e = let bad : false ≡ true = e in cc
first_there (q ∷ qs) (false ∷ cs) r e = all_there (length qs) (first_candidate qs cs r) (first_there qs cs r e)
first_there (q ∷ qs) (true ∷ cs) r e =
    elim (same_requirement q r) as (λ (b : Bool). (b || among (chosen_of qs cs) r) ≡ true → answer_in (everything (suc (length qs))) (cond b 0 (first_candidate qs cs r + 1)) ≡ true) [
      | true ↦ λ f. refl
      | false ↦ λ f. all_there (length qs) (first_candidate qs cs r) (first_there qs cs r f)
    ] e

each_self : (ys xs : List Requirement) → ((r : Requirement) → among xs r ≡ true → among ys r ≡ true) → list_all (among ys) xs ≡ true
each_self ys [] h = refl
each_self ys (x ∷ xs) h =
    and_both (among ys x) (list_all (among ys) xs) (h x (or_first (same_requirement x x) (among xs x) (same_requirement_laws.refl x)))
    (each_self ys xs (λ r e. h r (or_true (same_requirement x r) (among xs r) e)))

within_firsts : (all : List Requirement) (whole : List Bool) (n : ℕ) (cs : List Bool) (rs : List Requirement) → length cs ≡ length rs → length cs ≡ n → list_all (among (chosen_of all whole)) (chosen_of rs cs) ≡ true
    → IsWithin cs (with_chosen (replicate n false) (map (first_candidate all whole) rs) (everything (length all)))
within_firsts all whole zero [] rs e f h = tt
within_firsts all whole (suc n) [] rs e f h = absurd (omega (arith, f))
within_firsts all whole zero (c ∷ cs) rs e f h = absurd (omega (arith, f))
within_firsts all whole (suc n) (c ∷ cs) [] e f h = absurd (omega (arith, e))
within_firsts all whole (suc n) (true ∷ cs) (r ∷ rs) e f h =
    let both = and_parts (among (chosen_of all whole) r) (list_all (among (chosen_of all whole)) (chosen_of rs cs)) h in
    ((λ g. first_there all whole r both.0), within_firsts all whole n cs rs (omega (arith, e)) (omega (arith, f)) both.1)
within_firsts all whole (suc n) (false ∷ cs) (r ∷ rs) e f h =
    ((λ g. let bad : false ≡ true = g in cc), within_firsts all whole n cs rs (omega (arith, e)) (omega (arith, f)) h)

wider : (p : List Bool → Bool) (ss : List (List Bool)) → list_any (λ s. p (true ∷ s)) ss ≡ true → list_any p (without_and_with ss) ≡ true
wider p [] e = e
wider p (s ∷ ss) e =
    let more = list_any p (without_and_with ss) in
    or_true (p (false ∷ s)) (p (true ∷ s) || more)
    (elim (p (true ∷ s)) as (λ (b : Bool). (b || list_any (λ z. p (true ∷ z)) ss) ≡ true → (b || more) ≡ true) [ true ↦ λ f. refl | false ↦ λ f. wider p ss f ] e)

all_among : (n : ℕ) (p : List Bool → Bool) → p (everything n) ≡ true → list_any p (selections n) ≡ true
all_among zero p e = or_first (p []) false e
all_among (suc n) p e = wider p (selections n) (all_among n (λ s. p (true ∷ s)) e)

found : (p : List Bool → Bool) (ss : List (List Bool)) → list_any p ss ≡ true → (s : List Bool) × (find p ss ≡ Some s)
found p [] e = let bad : false ≡ true = e in cc
found p (s ∷ ss) e = elim (p s) as (λ (b : Bool). (b || list_any p ss) ≡ true → (z : List Bool) × (cond b (Some s) (find p ss) ≡ Some z)) [ true ↦ λ f. (s, refl) | false ↦ λ f. found p ss f ] e

-- where the expression is true over the candidates, a least choice among them is had
found_there : (t : Tree) (n : ℕ) (cs : List Bool) → n ≡ length (leaves t) → length cs ≡ n → truth_of t cs ≡ true → (s : List Bool) × (least_of (suffices_in t (replicate n false) cs) (length (replicate n false)) ≡ Some s)
found_there t n cs each many is =
    let none = replicate n false in
    let whole : list_all (among (chosen_of (leaves t) cs)) (chosen_of (leaves t) cs) ≡ true = each_self (chosen_of (leaves t) cs) (chosen_of (leaves t) cs) (λ r e. e) in
    let within = within_firsts (leaves t) cs n cs (leaves t) (many ∙ each) many whole in
    let suffices : suffices_in t none cs (everything (length (leaves t))) ≡ true = truth_grows t cs (with_chosen none (firsts_of t cs) (everything (length (leaves t)))) within is in
    let there : suffices_in t none cs (everything (length none)) ≡ true = ap (λ (k : ℕ). suffices_in t none cs (everything k)) (length-replicate n false ∙ each) ∙ suffices in
    found (suffices_in t none cs) (selections (length none)) (all_among (length none) (suffices_in t none cs) there)

abbrev is_unmet : Choice → Bool
is_unmet (chosen ns) = false
is_unmet unmet = true
is_unmet (too_many n) = false

-- where there is no choice the expression is false over the candidates
pub unmet_false : (t : Tree) (n : ℕ) (cs : List Bool) → n ≡ length (leaves t) → length cs ≡ n → choice_of t (replicate n false) cs ≡ unmet → truth_of t cs ≡ false
unmet_false t n cs each many e = by (truth_of t cs) refl
  where
    never : (b : Bool) (o : Option (List Bool)) (s : List Bool) → o ≡ Some s → cond b (too_many (length (replicate n false))) (choice_by o) ≡ unmet → ⊥
    never true o s is h = absurd (true≢false (sym (ap is_unmet h)))
    never false None s is h = let bad : None ≡ Some s = is in cc
    never false (Some z) s is h = absurd (true≢false (sym (ap is_unmet h)))

    by : (b : Bool) → truth_of t cs ≡ b → truth_of t cs ≡ false
    by false is = is
    by true is =
        let there = found_there t n cs each many is in
        absurd (never (nat_lt 1024 (length (replicate n false))) (least_of (suffices_in t (replicate n false) cs) (length (replicate n false))) there.0 there.1 e)

abbrev is_many : Choice → Bool
is_many (chosen ns) = false
is_many unmet = false
is_many (too_many n) = true

above : (n : ℕ) → nat_lt 1024 n ≡ true → 1024 < n
above n e = grind (arith, nat_tests, e)

-- where too many are told of there are so many
pub many_leaves : (t : Tree) (n : ℕ) (cs : List Bool) (m : ℕ) → n ≡ length (leaves t) → choice_of t (replicate n false) cs ≡ too_many m → 1024 < length (leaves t)
many_leaves t n cs m each e = by (nat_lt 1024 (length (replicate n false))) (least_of (suffices_in t (replicate n false) cs) (length (replicate n false))) refl e
  where
    by : (b : Bool) (o : Option (List Bool)) → nat_lt 1024 (length (replicate n false)) ≡ b → cond b (too_many (length (replicate n false))) (choice_by o) ≡ too_many m → 1024 < length (leaves t)
    by true o f h = subst (λ (k : ℕ). 1024 < k) (length-replicate n false ∙ each) (above (length (replicate n false)) f)
    by false None f h = absurd (true≢false (sym (ap is_many h)))
    by false (Some s) f h = absurd (true≢false (sym (ap is_many h)))
