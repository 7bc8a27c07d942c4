use Rattle.std.proofs.Common.{rules, tests, ap, ◌∙◌, take}
use Rattle.std.specs.Prelude.{not, ◌==◌}
use Rattle.std.proofs.lemmas.Iterator.{YieldsList-from_slice}
use Rattle.std.proofs.lemmas.Iterator.Consumers.{count_from_yields_List}
use Rattle.std.proofs.lemmas.Iterator.Search.{YieldsList-from_take_while}
use Rattle.std.proofs.lemmas.List.Folds.{length-prefix_len}
use Rattle.notice_texts.proofs.names.first_word.Goals as goal

pub returns : goal.returns
returns c =
    let counted = count_from_yields_List c.take_while.result c.count-count.result c.count-count.ensures.ran (YieldsList-from_take_while _ (λ b. not (b == 32)) (YieldsList-from_slice c.args.line.now cc) c.take_while.ensures.closure c.take_while.ensures.done (λ x b q k. search (rules, tests))) in
    ap (λ n. take n c.args.line.now) (counted ∙ length-prefix_len (λ b. not (b == 32)) c.args.line.now)
