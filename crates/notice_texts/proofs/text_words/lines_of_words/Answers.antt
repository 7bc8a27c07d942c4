use Rattle.std.proofs.Common.{rules, tests, ap, ◌∙◌, flat_map}
use Rattle.std.specs.Char.{is_ascii_whitespace}
use Rattle.std.proofs.lemmas.Iterator.Splits.{YieldsList-from_slice_split}
use Rattle.std.proofs.lemmas.Iterator.Consumers.{YieldsList-end}
use Rattle.std.specs.List.{slice_split}
use Rattle.std.specs.Slice.Iter.{split_rest, split_done, split_callee}
use Rattle.notice_texts.specs.Words.{line_of}
use Rattle.notice_texts.proofs.Wording.{lines_of_some}
use Rattle.notice_texts.proofs.text_words.lines_of_words.Goals as goal

pub returns : goal.returns
returns c =
    let gives = c.into_iter-word-iterator.ensures.into_iter_gives in
    let t = YieldsList-end (YieldsList-from_slice_split {s = c.into_iter-word-iterator.result} _ is_ascii_whitespace c.args.bytes.now (ap split_rest gives ∙ c.split-word-items.ensures.rest) (ap split_done gives ∙ c.split-word-items.ensures.done) (ap split_callee gives ∙ c.split-word-items.ensures.closure) (λ x b q k. search (rules, tests))) c.loop-word.yielded _ c.loop-word.yielded_by _ _ c.in-None.is c.next.ensures.steps in
    c.loop-word.invariant ∙ ap (flat_map line_of) t.0 ∙ lines_of_some (slice_split is_ascii_whitespace c.args.bytes.now)
