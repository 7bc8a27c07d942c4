use Rattle.std.proofs.Common.{◌≡◌, ◌-◌, rules, tests, ap, ◌∙◌, drop, length, reverse, arith, ℕ}
use Rattle.std.specs.Prelude.{not, ◌==◌}
use Rattle.std.specs.List.{prefix_len}
use Rattle.std.proofs.lemmas.Iterator.Adapters.{YieldsList-from_rev_slice}
use Rattle.std.proofs.lemmas.Iterator.Consumers.{count_from_yields_List}
use Rattle.std.proofs.lemmas.Iterator.Search.{YieldsList-from_take_while}
use Rattle.std.proofs.lemmas.List.Folds.{length-prefix_len}
use Rattle.std.proofs.lemmas.List.{take_all, length-drop}
use Rattle.notice_texts.proofs.names.name_in.Goals as goal

pub returns : goal.returns
returns c =
    let p = c.args.path.now in
    let n = c.count-count.result in
    let counted = count_from_yields_List c.take_while.result n c.count-count.ensures.ran (YieldsList-from_take_while _ (λ b. not (b == 47)) (YieldsList-from_rev_slice p cc) c.take_while.ensures.closure c.take_while.ensures.done (λ x b q k. search (rules, tests))) in
    let same : n ≡ prefix_len (λ b. not (b == 47)) (reverse p) = counted ∙ length-prefix_len (λ b. not (b == 47)) (reverse p) in
    take_all (length p - (length p - n)) (drop (length p - n) p) (omega (arith, length-drop (length p - n) p))
    ∙ ap (λ (k : ℕ). drop (length p - k) p) same
