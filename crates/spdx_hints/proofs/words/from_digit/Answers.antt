use Rattle.std.proofs.Common.{rules, tests, ap, ◌∙◌, drop, length}
use Rattle.std.proofs.Math.Nat.{le_refl}
use Rattle.std.proofs.lemmas.Iterator.{YieldsList-from_slice}
use Rattle.std.proofs.lemmas.Iterator.Consumers.{count_from_yields_List}
use Rattle.std.proofs.lemmas.Iterator.Search.{YieldsList-from_take_while}
use Rattle.std.proofs.lemmas.Slice.{between_to_end}
use Rattle.std.proofs.lemmas.List.Folds.{length-prefix_len}
use Rattle.std.specs.Char.{is_ascii_digit}
use Rattle.std.specs.Prelude.{not}
use Rattle.spdx_hints.proofs.words.from_digit.Goals as goal

pub returns : goal.returns
returns c =
    let counted = count_from_yields_List c.take_while.result c.count-count.result c.count-count.ensures.ran (YieldsList-from_take_while _ (λ b. not (is_ascii_digit b)) (YieldsList-from_slice c.args.piece.now cc) c.take_while.ensures.closure c.take_while.ensures.done (λ x b q k. search (rules, tests))) in
    between_to_end c.args.piece.now c.count-count.result (length c.args.piece.now) (le_refl (length c.args.piece.now)) ∙ ap (λ n. drop n c.args.piece.now) (counted ∙ length-prefix_len (λ b. not (is_ascii_digit b)) c.args.piece.now)
