use Rattle.std.proofs.Common.{rules, tests, ap, ◌∙◌, take}
use Rattle.std.proofs.lemmas.Iterator.{YieldsList-from_slice}
use Rattle.std.proofs.lemmas.Iterator.Consumers.{count_from_yields_List}
use Rattle.std.proofs.lemmas.Iterator.Search.{YieldsList-from_take_while}
use Rattle.std.proofs.lemmas.List.Folds.{length-prefix_len}
use Rattle.std.specs.Char.{is_ascii_alphabetic}
use Rattle.spdx_hints.proofs.words.letters.Goals as goal

pub returns : goal.returns
returns c =
    let counted = count_from_yields_List c.take_while.result c.count-count.result c.count-count.ensures.ran (YieldsList-from_take_while _ is_ascii_alphabetic (YieldsList-from_slice c.args.piece.now cc) c.take_while.ensures.closure c.take_while.ensures.done (λ x b q k. search (rules, tests))) in
    ap (λ n. take n c.args.piece.now) (counted ∙ length-prefix_len is_ascii_alphabetic c.args.piece.now)
