use Rattle.std.proofs.Common.{rules, tests}
use Rattle.std.specs.Prelude.{not, bytes_eq}
use Rattle.std.proofs.lemmas.Iterator.Splits.{YieldsList-from_slice_split}
use Rattle.std.proofs.lemmas.Iterator.Search.{any_from_yields_List}
use Rattle.spdx_hints.specs.Words.{is_piece_byte, number}
use Rattle.spdx_hints.proofs.words.has_number.Goals as goal

pub returns : goal.returns
returns c =
    any_from_yields_List (λ p. bytes_eq (number p) c.args.wanted.now) _ _ c.any.result c.any.ensures.ran
    (YieldsList-from_slice_split _ (λ b. not (is_piece_byte b)) c.args.text.now c.split.ensures.rest c.split.ensures.done c.split.ensures.closure (λ x b q k. search (rules, tests)))
    (λ x b q k. search (rules, tests))
