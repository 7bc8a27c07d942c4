use Rattle.std.proofs.Common.{rules, tests, ap, ◌∙◌, take}
use Rattle.std.proofs.lemmas.Iterator.{YieldsList-from_slice}
use Rattle.std.proofs.lemmas.Iterator.Consumers.{count_from_yields_List}
use Rattle.std.proofs.lemmas.Iterator.Search.{YieldsList-from_take_while}
use Rattle.std.proofs.lemmas.List.Folds.{length-prefix_len}
use Rattle.spdx_list.specs.FullNames.{is_word_byte}
use Rattle.spdx_list.proofs.forms.full_names.first_word.Goals as goal

pub returns : goal.returns
returns c =
    let counted = count_from_yields_List c.take_while.result c.count-count.result c.count-count.ensures.ran (YieldsList-from_take_while _ is_word_byte (YieldsList-from_slice c.args.text.now cc) c.take_while.ensures.closure c.take_while.ensures.done (λ x b q k. search (rules, tests))) in
    ap (λ n. take n c.args.text.now) (counted ∙ length-prefix_len is_word_byte c.args.text.now)
