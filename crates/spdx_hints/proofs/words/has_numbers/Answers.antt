use Rattle.std.proofs.Common.{rules, tests}
use Rattle.std.specs.Prelude.{not, ◌||◌, ◌==◌, length}
use Rattle.std.proofs.lemmas.Iterator.Splits.{YieldsList-from_slice_split}
use Rattle.std.proofs.lemmas.Iterator.Search.{all_from_yields_List}
use Rattle.spdx_hints.specs.Words.{is_piece_byte, number, has_number}
use Rattle.spdx_hints.proofs.words.has_numbers.Goals as goal

pub returns : goal.returns
returns c =
    all_from_yields_List (λ p. length (number p) == 0 || has_number c.args.b.now (number p)) _ _ c.all.result c.all.ensures.ran
    (YieldsList-from_slice_split _ (λ b. not (is_piece_byte b)) c.args.a.now c.split.ensures.rest c.split.ensures.done c.split.ensures.closure (λ x b q k. search (rules, tests)))
    (λ x b q k. search (rules, tests))
