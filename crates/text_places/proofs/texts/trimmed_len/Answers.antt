use Rattle.std.proofs.Common.{◌-◌, length, ap, ◌∙◌, arith}
use Rattle.std.specs.List.{suffix_len}
use Rattle.std.specs.Char.{is_ascii_whitespace}
use Rattle.std.proofs.lemmas.List.{length-take-le}
use Rattle.std.proofs.lemmas.Str.Ascii.{trim_ascii_end_is}
use Rattle.text_places.proofs.texts.trimmed_len.Goals as goal

pub returns-clause-value : goal.returns-clause-value
returns-clause-value c =
    let text = c.args.text.now in
    ap length (trim_ascii_end_is text c.trim_ascii_end.result.now c.trim_ascii_end.ensures.value)
    ∙ length-take-le (length text - suffix_len is_ascii_whitespace text) text (omega arith)
