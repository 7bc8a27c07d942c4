use Rattle.std.proofs.Common.{rules, ◌≡◌, ◌∙◌, sym, ap, subst, arith, ◌+◌, ℕ, Bool, List, length, true, false, ◌-◌, ◌<◌, replicate, slice_set}
use Rattle.selections.specs.Selection.{everything, IsLeast}
use Rattle.selections.proofs.Least.{Choosing, starts, drops, keeps, ends}
use Rattle.selections.proofs.Only.{only_least, needs_each, none_suffices}
use Rattle.selections.proofs.selection.least_selection.Goals as goal

-- the same state of the choice, where the place is one less
one_less : (suffices : List Bool → Bool) (n i : ℕ) (chosen : List Bool) → 0 < i → Choosing suffices n i chosen → Choosing suffices n (i - 1 + 1) chosen
one_less suffices n i chosen h c = let e : i ≡ i - 1 + 1 = omega arith in subst (λ (k : ℕ). Choosing suffices n k chosen) e c

first_place : (suffices : List Bool → Bool) (n k : ℕ) (one other : List Bool) → n ≡ k → one ≡ other → Choosing suffices n n one → Choosing suffices n k other
first_place suffices n k one other e f c =
    let moved : Choosing suffices n n other = subst (λ (z : List Bool). Choosing suffices n n z) f c in
    subst (λ (m : ℕ). Choosing suffices n m other) e moved

pub returns-then-not-judge-clause-answer : goal.returns-then-not-judge-clause-answer
returns-then-not-judge-clause-answer g c =
    let filled : c.fill.new.self ≡ everything (g.S.Sufficiency.count c.args.judge.now) = c.fill.ensures.after (λ y h. search rules) ∙ ap (λ (n : ℕ). replicate n true) c.requires in
    sym c.if-not-judge.true ∙ c.judge.ensures.answer ∙ ap (g.S.Sufficiency.suffices c.args.judge.now) filled

pub returns-then-not-judge-clause-none : goal.returns-then-not-judge-clause-none
returns-then-not-judge-clause-none g c =
    λ _. c.fill.ensures.after (λ y h. search rules) ∙ ap (λ (n : ℕ). replicate n true) c.requires

pub loop-i-init : goal.loop-i-init
loop-i-init g c =
    let filled : c.fill.new.self ≡ everything (g.S.Sufficiency.count c.args.judge.now) = c.fill.ensures.after (λ y h. search rules) ∙ ap (λ (n : ℕ). replicate n true) c.requires in
    let all : length c.fill.new.self ≡ g.S.Sufficiency.count c.args.judge.now = c.fill.ensures.len ∙ c.requires in
    let sufficient : g.S.Sufficiency.suffices c.args.judge.now (everything (g.S.Sufficiency.count c.args.judge.now)) ≡ true =
    ap (g.S.Sufficiency.suffices c.args.judge.now) (sym filled) ∙ sym c.judge.ensures.answer ∙ c.if-not-judge.false in
    record {
      chosen = first_place _ _ _ _ _ (sym all) (sym filled) (starts _ _ sufficient);
      same_members = c.judge.ensures.same_members;
      same_meaning = c.judge.ensures.same_meaning;
      questions = omega (arith, c.judge.ensures.question, all);
    }

pub loop-i-preserved-then-not-judge-2 : goal.loop-i-preserved-then-not-judge-2
loop-i-preserved-then-not-judge-2 g c =
    let positive : 0 < c.loop-i.i = omega arith in
    record {
      chosen = keeps (g.S.Sufficiency.suffices c.args.judge.now) (g.S.Sufficiency.count c.args.judge.now) (c.loop-i.i - 1) c.loop-i.selection
          (λ some more e. g.met.S.Sufficiency.grows c.args.judge.now some more e)
          (one_less _ _ _ _ positive c.loop-i.invariant.chosen)
          (ap (λ (f : List Bool → Bool). f (slice_set c.loop-i.selection (c.loop-i.i - 1) false)) (sym c.loop-i.invariant.same_meaning) ∙ sym c.judge-in-loop-i.ensures.answer ∙ c.if-not-judge-2.true);
      same_members = c.judge-in-loop-i.ensures.same_members ∙ c.loop-i.invariant.same_members;
      same_meaning = c.judge-in-loop-i.ensures.same_meaning ∙ c.loop-i.invariant.same_meaning;
      questions = omega (arith, c.judge-in-loop-i.ensures.question, c.loop-i.invariant.questions, positive);
    }

pub loop-i-preserved : goal.loop-i-preserved
loop-i-preserved g c =
    let positive : 0 < c.loop-i.i = omega arith in
    record {
      chosen = drops (g.S.Sufficiency.suffices c.args.judge.now) (g.S.Sufficiency.count c.args.judge.now) (c.loop-i.i - 1) c.loop-i.selection
          (one_less _ _ _ _ positive c.loop-i.invariant.chosen)
          (ap (λ (f : List Bool → Bool). f (slice_set c.loop-i.selection (c.loop-i.i - 1) false)) (sym c.loop-i.invariant.same_meaning) ∙ sym c.judge-in-loop-i.ensures.answer ∙ c.if-not-judge-2.false);
      same_members = c.judge-in-loop-i.ensures.same_members ∙ c.loop-i.invariant.same_members;
      same_meaning = c.judge-in-loop-i.ensures.same_meaning ∙ c.loop-i.invariant.same_meaning;
      questions = omega (arith, c.judge-in-loop-i.ensures.question, c.loop-i.invariant.questions, positive);
    }

pub returns-clause-answer : goal.returns-clause-answer
returns-clause-answer g c =
    let filled : c.fill.new.self ≡ everything (g.S.Sufficiency.count c.args.judge.now) = c.fill.ensures.after (λ y h. search rules) ∙ ap (λ (n : ℕ). replicate n true) c.requires in
    sym c.if-not-judge.false ∙ c.judge.ensures.answer ∙ ap (g.S.Sufficiency.suffices c.args.judge.now) filled

-- the least selection, as the loop leaves it
least_at_end : (suffices : List Bool → Bool) (n i : ℕ) (chosen : List Bool) → i ≡ 0 → Choosing suffices n i chosen → IsLeast suffices n chosen
least_at_end suffices n i chosen e c = ends suffices n chosen (subst (λ (k : ℕ). Choosing suffices n k chosen) e c)

pub returns-clause-least : goal.returns-clause-least
returns-clause-least g c = λ _. least_at_end _ _ _ _ (omega arith) c.loop-i.invariant.chosen

pub returns-clause-only : goal.returns-clause-only
returns-clause-only g c = λ _. only_least _ _ _ (least_at_end _ _ _ _ (omega arith) c.loop-i.invariant.chosen)

pub returns-clause-needed : goal.returns-clause-needed
returns-clause-needed g c = λ _. needs_each _ _ _ (least_at_end _ _ _ _ (omega arith) c.loop-i.invariant.chosen)

pub returns-then-not-judge-clause-none_suffices : goal.returns-then-not-judge-clause-none_suffices
returns-then-not-judge-clause-none_suffices g c =
    let filled : c.fill.new.self ≡ everything (g.S.Sufficiency.count c.args.judge.now) = c.fill.ensures.after (λ y h. search rules) ∙ ap (λ (n : ℕ). replicate n true) c.requires in
    λ _. none_suffices _ _ (λ some more e. g.met.S.Sufficiency.grows c.args.judge.now some more e)
    (ap (g.S.Sufficiency.suffices c.args.judge.now) (sym filled) ∙ sym c.judge.ensures.answer ∙ c.if-not-judge.true)
