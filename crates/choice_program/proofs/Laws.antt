-- What is chosen by a policy is accepted by it, and the choice and the gate agree.
use Rattle.std.proofs.Common.{◌≡◌, ℕ, zero, suc, ◌≤◌, Bool, true, false, cond, nat_lt, ◌⊎◌, inl, inr, List, [], ◌∷◌, Option, Some, None, length, map, replicate, refl, sym, ◌∙◌, ap, subst, arith}
use Rattle.std.specs.Prelude.{◌++◌, slice_get, unwrap_or}
use Rattle.std.specs.List.{AllZip}
use Rattle.std.proofs.lemmas.Bool.{true≢false}
use Rattle.std.proofs.lemmas.List.{length-map, length-replicate}
use Rattle.spdx_requirement.specs.Items.{Requirement}
use Rattle.spdx_requirement.specs.Equality.{same_requirement}
use Rattle.spdx_requirement.specs.EqualityLaws.{requirements_decide}
use Rattle.spdx_requirement.specs.Rows.{Rows}
use Rattle.spdx_parser.specs.Meaning.{IsOfRows}
use Rattle.spdx_parser.specs.Tree.{Tree, Leaf, Join, leaves}
use Rattle.spdx_evaluation.specs.Postfix.{tree_in}
use Rattle.spdx_evaluation.specs.Truth.{holds}
use Rattle.spdx_minimize.specs.Choice.{least_of}
use Rattle.spdx.specs.Equality.{leaf_key}
use Rattle.spdx.specs.EqualityLaws.{tree_told}
use Rattle.spdx_policy.specs.Rules.{Rules}
use Rattle.spdx_why.specs.Missing.{answer_in}
use Rattle.spdx_why.specs.Least.{Choice, advised, choice_of, chosen, too_many, unmet}
use Rattle.package_items.specs.declared.package.Package.{Package}
use Rattle.spdx_gate.specs.declared.judged.Judged.{Judged}
use Rattle.spdx_gate.specs.declared.package.Verdict.{Verdict}
use Rattle.spdx_gate.specs.declared.package.Verdict.TheVariants as verdict
use Rattle.spdx_gate.specs.Judging.{allowed_in, mode_of}
use Rattle.spdx_gate.specs.Reports.{IsVerdictOf, IsVerdictOfText, Means}
use Rattle.spdx_gate.specs.Verdicts.{passes, verdict_by}
use Rattle.gate_program.specs.Files.{view_of}
use Rattle.package_choices.specs.Choice as choice
use Rattle.package_choices.specs.Choice.{Asked, Offered, Told, asked, asked_all, choices_by, members_of, met, number_of, own_in, suffices_for, together}
use Rattle.package_choices.specs.Passes.{EachPasses, Passes}
use Rattle.package_choices.specs.Texts.{judged_offer, offered}
use Rattle.package_choices.proofs.Allowing.{choice_there, offer_there}
use Rattle.choice_program.specs.declared.choosing.ChoiceTrouble.{ChoiceTrouble}
use Rattle.choice_program.specs.declared.choosing.ChoiceTrouble.TheVariants as trouble
use Rattle.choice_program.specs.declared.choosing.Chosen.{Chosen}
use Rattle.choice_program.specs.declared.unchosen.Unchosen.{Unchosen}
use Rattle.choice_program.specs.declared.unchosen.Why.{Why}
use Rattle.choice_program.specs.declared.unchosen.Why.TheVariants as why
use Rattle.package_items.specs.Each.{AreHad, none, had, lacked}
use Rattle.choice_program.specs.Agreed as agreed
use Rattle.choice_program.specs.Agreed.{Agrees, AllPass, AreAccepted, IsAccepted, IsLeft, IsToldOf}
use Rattle.choice_program.specs.Allowed.{IsChosenByPolicy, IsNoChoiceByPolicy}
use Rattle.choice_program.specs.Judged.{HasNoOwn, HasOwn, IsJudgedOf, IsWhyNot, tables_for}
use Rattle.choice_program.specs.Picked.{AreParts, Pick, judged_in, numbered, numbers_in, offers_in, requirements_of}
use Rattle.choice_program.proofs.Numbers.{and_parts, at_mapped}
use Rattle.choice_program.proofs.Served as Served
use Rattle.choice_program.proofs.Served.{choice_among, choice_suffices, many_leaves, true_over, unmet_false}

-- ---- over one catalogue the same requirements are one

abbrev leaf_or : Requirement → Tree → Requirement
leaf_or d (Leaf r) = r
leaf_or d (Join o l r) = d

told_same : (c : Rows) (q r : Requirement) → IsOfRows c (Leaf q) → IsOfRows c (Leaf r) → same_requirement q r ≡ true → q ≡ r
told_same c q r h k e = ap (leaf_or q) (tree_told c (Leaf q) (Leaf r) h k (ap leaf_key ((requirements_decide q r).0 e)))

first_part : (xs ys : List Requirement) (i : ℕ) (q : Requirement) → slice_get (xs ++ ys) i ≡ Some q → (slice_get xs i ≡ Some q) ⊎ ((k : ℕ) × (slice_get ys k ≡ Some q))
first_part [] ys i q e = inr (i, e)
first_part (x ∷ xs) ys zero q e = inl e
first_part (x ∷ xs) ys (suc i) q e = first_part xs ys i q e

leaf_row : (c : Rows) (t : Tree) → IsOfRows c t → (i : ℕ) (q : Requirement) → slice_get (leaves t) i ≡ Some q → IsOfRows c (Leaf q)
leaf_row c (Leaf r) h zero q e = subst (λ (z : Requirement). IsOfRows c (Leaf z)) (ap (λ o. unwrap_or o r) e) h
leaf_row c (Leaf r) h (suc i) q e = let bad : None ≡ Some q = e in cc
leaf_row c (Join o l r) h i q e =
    elim (first_part (leaves l) (leaves r) i q e) [
      | inl f ↦ leaf_row c l h.0 i q f
      | inr f ↦ leaf_row c r h.1 f.0 q f.1
    ]

-- ---- the choice of a judgement

module _ (c : Rows) (p : Rules) (x : Package) (j : Judged) (h : IsJudgedOf c p x j) where
  abbrev tree : Tree
  tree = h.judged.parsed.tree

  abbrev allows : Requirement → Bool
  allows = allowed_in p (tables_for p x)

  abbrev allowed : List Bool
  allowed = map allows (leaves tree)

  count : length allowed ≡ length (leaves tree)
  count = length-map (leaves tree) allows

  means : Means c (mode_of p) h.text tree
  means = (h.judged.parsed.read, h.judged.parsed.reads, h.judged.parsed.meant)

  offer : judged_offer j ≡ offered p (tables_for p x) tree
  offer = offer_there c p (tables_for p x) h.text j h.judged j.nodes.items (judged_offer j).allowed refl refl

  own : advised j.choice ≡ choice_of tree (replicate (length allowed) false) allowed
  own = choice_there c p (tables_for p x) h.text j h.judged

  -- what an allowed requirement serves is allowed
  serves_allowed : (selection : List Bool) (i : ℕ) (r : Requirement) → slice_get (leaves tree) i ≡ Some r → Served.Served (leaves tree) allowed selection r → allows r ≡ true
  serves_allowed selection i r at s =
      let rows = h.judged.parsed.rows_are in
      let one : s.one ≡ r = told_same c s.one r (leaf_row c tree rows s.number s.one s.there) (leaf_row c tree rows i r at) s.same in
      ap allows (sym one) ∙ sym (at_mapped allows (leaves tree) s.number s.one s.there) ∙ s.candidate

  -- where it has a choice, what is allowed makes it true
  holds_allowed : (numbers : List ℕ) → advised j.choice ≡ chosen numbers → holds allows tree ≡ true
  holds_allowed numbers e =
      let least = Served.had tree (replicate (length allowed) false) allowed numbers (sym own ∙ e) in
      true_over allows tree (length allowed) allowed numbers least count (serves_allowed least.selection)

  fails_allowed : advised j.choice ≡ unmet → holds allows tree ≡ false
  fails_allowed e = unmet_false tree (length allowed) allowed count refl (sym own ∙ e)

  passes_offer : (numbers : List ℕ) → advised j.choice ≡ chosen numbers → Passes (judged_offer j)
  passes_offer numbers e =
      let least = Served.had tree (replicate (length allowed) false) allowed numbers (sym own ∙ e) in
      subst Passes (sym offer) (record {
        each = count;
        few = subst (λ (n : ℕ). n ≤ 1024) (length-replicate (length allowed) false) least.few;
        true_there = holds_allowed numbers e;
      })

  -- a choice among candidates that are allowed is accepted
  accepted_by : (cs : List Bool) (numbers : List ℕ) → choice_of tree (replicate (length allowed) false) cs ≡ chosen numbers → ((k : ℕ) → answer_in cs k ≡ true → answer_in allowed k ≡ true)
      → IsAccepted c p x (numbered numbers 0 (leaves (tree_in j.nodes.items)))
  accepted_by cs numbers e within =
      let least = Served.had tree (replicate (length allowed) false) cs numbers e in
      subst (λ (t : Tree). IsAccepted c p x (numbered numbers 0 (leaves t))) (sym h.judged.tree_is) (record {
        text = h.text;
        tree = tree;
        text_is = h.text_is;
        means = means;
        allowed = choice_among (λ r. allows r ≡ true) tree (length allowed) cs numbers least count (λ k q at is. sym (at_mapped allows (leaves tree) k q at) ∙ within k is);
        suffices = choice_suffices tree (length allowed) cs numbers least count;
      })

  verdict_there : IsVerdictOf c p (view_of x) j.verdict
  verdict_there =
      subst (λ (o : Option (List ℕ)). IsVerdictOfText c p (tables_for p x) o j.verdict) (sym h.text_is) (inr (tree, means, h.judged.decided.verdict_is))

  passes_by : (b without : Bool) → passes (verdict_by b without) ≡ b
  passes_by false without = refl
  passes_by true false = refl
  passes_by true true = refl

  passes_where : passes j.verdict ≡ holds allows tree
  passes_where = ap passes h.judged.decided.verdict_is ∙ passes_by (holds allows tree) (holds (allowed_in p []) tree)

-- ---- packages with their own choices

pub each_passes : (c : Rows) (p : Rules) (ps : List Package) (own : List Pick) → AllZip (HasOwn c p) ps own → EachPasses (offers_in own)
each_passes c p [] [] h = tt
each_passes c p [] (k ∷ ks) h = absurd h
each_passes c p (x ∷ xs) [] h = absurd h
each_passes c p (x ∷ xs) (k ∷ ks) h = (passes_offer c p x k.judged h.0.0 k.numbers h.0.1, each_passes c p xs ks h.1)

abbrev verdicts_of : List Pick → List Verdict
verdicts_of own = map (λ (k : Pick). k.judged.verdict) own

passes_own : (c : Rows) (p : Rules) (x : Package) (k : Pick) → HasOwn c p x k → agreed.Passes c p x k.judged.verdict
passes_own c p x k h = (verdict_there c p x k.judged h.0, passes_where c p x k.judged h.0 ∙ holds_allowed c p x k.judged h.0 k.numbers h.1)

each_verdict : (c : Rows) (p : Rules) (ps : List Package) (own : List Pick) → AllZip (HasOwn c p) ps own → AllZip (agreed.Passes c p) ps (verdicts_of own)
each_verdict c p [] [] h = tt
each_verdict c p [] (k ∷ ks) h = absurd h
each_verdict c p (x ∷ xs) [] h = absurd h
each_verdict c p (x ∷ xs) (k ∷ ks) h = (passes_own c p x k h.0, each_verdict c p xs ks h.1)

pub all_pass : (c : Rows) (p : Rules) (one : Bool) (ps : List Package) (told : Chosen) → IsChosenByPolicy c p one ps told → AllPass c p ps
all_pass c p one ps told is = (verdicts_of is.own, each_verdict c p ps is.own is.each)

-- ---- what is chosen is accepted

own_accepted : (c : Rows) (p : Rules) (ps : List Package) (own : List Pick) → AllZip (HasOwn c p) ps own → AllZip (IsAccepted c p) ps (map requirements_of own)
own_accepted c p [] [] h = tt
own_accepted c p [] (k ∷ ks) h = absurd h
own_accepted c p (x ∷ xs) [] h = absurd h
own_accepted c p (x ∷ xs) (k ∷ ks) h = (
  accepted_by c p x k.judged h.0.0 (allowed c p x k.judged h.0.0) k.numbers (sym (own c p x k.judged h.0.0) ∙ h.0.1) (λ n e. e),
  own_accepted c p xs ks h.1,
)

met_first : (bs : List Bool) (ns : List ℕ) (s : List Bool) (k : ℕ) → answer_in (met bs ns s) k ≡ true → answer_in bs k ≡ true
met_first [] ns s k e = e
met_first (b ∷ bs) [] s k e = let bad : false ≡ true = e in cc
met_first (b ∷ bs) (n ∷ ns) s zero e = (and_parts b (answer_in s n) e).0
met_first (b ∷ bs) (n ∷ ns) s (suc k) e = met_first bs ns s k e

longer : {A : Type 0} (x : A) (xs : List A) → [] ≡ x ∷ xs → ⊥
longer x xs e =
    let l : 0 ≡ suc (length xs) = ap length e in
    absurd (omega (arith, l))

abbrev first_or : {A : Type 0} → A → List A → A
first_or d [] = d
first_or d (x ∷ xs) = x

abbrev behind : {A : Type 0} → List A → List A
behind [] = []
behind (x ∷ xs) = xs

-- the part of an expression in a selection for all
part_accepted : (c : Rows) (p : Rules) (x : Package) (k : Pick) (ms : List Requirement) (s : List Bool) (numbers : List ℕ) → HasOwn c p x k → own_in s (asked ms (judged_offer k.judged)) ≡ chosen numbers
    → IsAccepted c p x (numbered numbers 0 (leaves (tree_in k.judged.nodes.items)))
part_accepted c p x k ms s numbers h e =
    let bs = allowed c p x k.judged h.0 in
    let ns = map (number_of ms) (leaves (tree c p x k.judged h.0)) in
    let there : own_in s (asked ms (offered p (tables_for p x) (tree c p x k.judged h.0))) ≡ chosen numbers = ap (λ (o : Offered). own_in s (asked ms o)) (sym (offer c p x k.judged h.0)) ∙ e in
    accepted_by c p x k.judged h.0 (met bs ns s) numbers there (met_first bs ns s)

parts_accepted : (c : Rows) (p : Rules) (ms : List Requirement) (s : List Bool) (ps : List Package) (own parts : List Pick) → AllZip (HasOwn c p) ps own → judged_in parts ≡ judged_in own
    → map (own_in s) (map (asked ms) (offers_in own)) ≡ map chosen (numbers_in parts) → AllZip (IsAccepted c p) ps (map requirements_of parts)
parts_accepted c p ms s [] [] [] h same e = tt
parts_accepted c p ms s [] [] (q ∷ qs) h same e = absurd (longer q.judged (judged_in qs) (sym same))
parts_accepted c p ms s [] (k ∷ ks) parts h same e = absurd h
parts_accepted c p ms s (x ∷ xs) [] parts h same e = absurd h
parts_accepted c p ms s (x ∷ xs) (k ∷ ks) [] h same e = absurd (longer k.judged (judged_in ks) same)
parts_accepted c p ms s (x ∷ xs) (k ∷ ks) (q ∷ qs) h same e =
    let one : q.judged ≡ k.judged = ap (first_or q.judged) same in
    let here : own_in s (asked ms (judged_offer k.judged)) ≡ chosen q.numbers = ap (first_or (chosen q.numbers)) e in (
      subst (λ (j : Judged). IsAccepted c p x (numbered q.numbers 0 (leaves (tree_in j.nodes.items)))) (sym one) (part_accepted c p x k ms s q.numbers h.0 here),
      parts_accepted c p ms s xs ks qs h.1 (ap behind same) (ap behind e),
    )

abbrev is_together : Told → Bool
is_together (together choices) = true
is_together choice.unmet = false
is_together (choice.too_many n) = false

abbrev choices_in : Told → List Choice
choices_in (together choices) = choices
choices_in choice.unmet = []
choices_in (choice.too_many n) = []

selected : (b : Bool) (m : ℕ) (o : Option (List Bool)) (qs : List Asked) (choices : List Choice) → cond b (choice.too_many m) (choices_by qs o) ≡ together choices → (s : List Bool) × (map (own_in s) qs ≡ choices)
selected true m o qs choices e = absurd (true≢false (sym (ap is_together e)))
selected false m None qs choices e = absurd (true≢false (sym (ap is_together e)))
selected false m (Some s) qs choices e = (s, ap choices_in e)

all_accepted : (c : Rows) (p : Rules) (one : Bool) (ps : List Package) (own parts : List Pick) → AllZip (HasOwn c p) ps own → AreParts one own parts → AllZip (IsAccepted c p) ps (map requirements_of parts)
all_accepted c p false ps own parts h are = subst (λ (ks : List Pick). AllZip (IsAccepted c p) ps (map requirements_of ks)) (sym are) (own_accepted c p ps own h)
all_accepted c p true ps own parts h are =
    let os = offers_in own in
    let ms = members_of os in
    let qs = asked_all os in
    let s = selected (nat_lt 1024 (length ms)) (length ms) (least_of (suffices_for qs) (length ms)) qs (map chosen (numbers_in parts)) are.joint in
    parts_accepted c p ms s.0 ps own parts h are.of_the_same s.1

pub accepted : (c : Rows) (p : Rules) (one : Bool) (ps : List Package) (told : Chosen) → IsChosenByPolicy c p one ps told → AreAccepted c p ps told
accepted c p one ps told is =
    (map requirements_of is.picked.parts, is.picked.named_are.choices_are, all_accepted c p one ps is.own is.picked.parts is.each is.picked.are_parts)

-- ---- what is told

left : (c : Rows) (p : Rules) (x : Package) (w : Why) → IsWhyNot c p x w → (v : Verdict) × IsLeft c p x v
left c p x why.Unstated is =
    (verdict.Unstated p.unstated, (subst (λ (o : Option (List ℕ)). IsVerdictOfText c p (tables_for p x) o (verdict.Unstated p.unstated)) (sym is) refl, inr (inl refl)))
left c p x (why.Unreadable told r) is =
    let unread = is.1.1 in
    (verdict.Unreadable, (subst (λ (o : Option (List ℕ)). IsVerdictOfText c p (tables_for p x) o verdict.Unreadable) (sym is.0) (inl (unread.no_tree, refl)), inl refl))
left c p x why.NotAllowed is =
    let j = is.0 in
    (j.verdict, (verdict_there c p x j is.1, inl (passes_where c p x j is.1 ∙ fails_allowed c p x j is.1 is.2)))
left c p x why.TooMany is =
    let j = is.0 in
    let h = is.1 in
    let bs = allowed c p x j h in
    let t = tree c p x j h in
    let long = many_leaves t (length bs) bs is.2.0 (count c p x j h) (sym (own c p x j h) ∙ is.2.1) in
    (j.verdict, (verdict_there c p x j h, inr (inr (h.text, t, h.text_is, means c p x j h, long))))
left c p x (why.Unmet e) is = absurd is

told_of : (c : Rows) (p : Rules) (x : Package) (u : Unchosen) → HasNoOwn c p x u → IsToldOf c p x u
told_of c p x u is = (is.name_is, left c p x u.why is.why_is)

each_told : (c : Rows) (p : Rules) {ps : List Package} {own : List Pick} {us : List Unchosen} → AreHad (HasOwn c p) (HasNoOwn c p) ps own us → AreHad (agreed.Passes c p) (IsToldOf c p) ps (verdicts_of own) us
each_told c p none = none
each_told c p (had {x = x} {y = k} h rest) = had (passes_own c p x k h) (each_told c p rest)
each_told c p (lacked {x = x} {f = u} h rest) = lacked (told_of c p x u h) (each_told c p rest)

pub agrees : (c : Rows) (p : Rules) (one : Bool) (ps : List Package) (t : ChoiceTrouble) → IsNoChoiceByPolicy c p one ps t → Agrees c p ps t
agrees c p one ps (trouble.NoChoices us) is = (verdicts_of is.own, each_told c p is.each)
agrees c p one ps (trouble.NoneTogether w) is = (verdicts_of is.1.own, each_verdict c p ps is.1.own is.1.each)
agrees c p one ps trouble.Memory is = tt
agrees c p one ps (trouble.Policy t) is = absurd is
agrees c p one ps (trouble.NoLicensee n r) is = absurd is
