use Rattle.std.proofs.Common.{rules, tests}
use Rattle.std.specs.Prelude.{not}
use Rattle.std.proofs.lemmas.Iterator.Splits.{YieldsList-from_slice_split}
use Rattle.std.proofs.lemmas.Iterator.Search.{all_from_yields_List}
use Rattle.spdx_hints.specs.Words.{is_piece_byte, is_kept, word}
use Rattle.spdx_hints.proofs.words.keeps_telling.Goals as goal

pub returns : goal.returns
returns c =
    all_from_yields_List (λ p. is_kept c.args.name.now c.args.full_name.now (word p)) _ _ c.all.result c.all.ensures.ran
    (YieldsList-from_slice_split _ (λ b. not (is_piece_byte b)) c.args.phrase.now c.split.ensures.rest c.split.ensures.done c.split.ensures.closure (λ x b q k. search (rules, tests)))
    (λ x b q k. search (rules, tests))
