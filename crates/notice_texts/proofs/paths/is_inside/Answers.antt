use Rattle.std.proofs.Common.{◌≡◌, rules, tests, ap, sym, ◌∙◌, true, false}
use Rattle.std.specs.Prelude.{not, ◌==◌}
use Rattle.std.specs.List.{list_all}
use Rattle.std.proofs.lemmas.Iterator.Splits.{YieldsList-from_slice_split}
use Rattle.std.proofs.lemmas.Iterator.Search.{all_from_yields_List}
use Rattle.notice_texts.specs.Paths.{is_step, is_dot, parts}
use Rattle.notice_texts.proofs.paths.is_inside.Goals as goal

pub returns-then-all : goal.returns-then-all
returns-then-all c =
    let steps : c.all.result ≡ list_all is_step (parts c.args.path.now) =
    all_from_yields_List is_step _ _ c.all.result c.all.ensures.ran
    (YieldsList-from_slice_split _ (λ b. b == 47) c.args.path.now c.split.ensures.rest c.split.ensures.done c.split.ensures.closure (λ x b q k. search (rules, tests)))
    (λ x b q k. search (rules, tests)) in
    let all : list_all is_step (parts c.args.path.now) ≡ true = sym steps ∙ c.if-all.true in
    rw all (ap not c.is_dot.ensures ∙ ap (λ p. not (is_dot p)) c.name_in.ensures)

pub returns-else-all : goal.returns-else-all
returns-else-all c =
    let steps : c.all.result ≡ list_all is_step (parts c.args.path.now) =
    all_from_yields_List is_step _ _ c.all.result c.all.ensures.ran
    (YieldsList-from_slice_split _ (λ b. b == 47) c.args.path.now c.split.ensures.rest c.split.ensures.done c.split.ensures.closure (λ x b q k. search (rules, tests)))
    (λ x b q k. search (rules, tests)) in
    let all : list_all is_step (parts c.args.path.now) ≡ false = sym steps ∙ c.if-all.false in
    rw all c.if-all.false
