use Rattle.std.proofs.Common.{refl, length, rules}
use Rattle.std.specs.Prelude.{min}
use Rattle.std.specs.Str.{IsTrimAscii}
use Rattle.std.proofs.lemmas.Str.Ascii.{trim_ascii_is}
use Rattle.spdx_hints.specs.Phrase.{phrase_of, around}
use Rattle.spdx_hints.proofs.around.phrase.Goals as goal

pub returns : goal.returns
unfolding phrase_of
returns c =
    let text = c.args.text.now in
    let found : IsTrimAscii (around text (min c.args.start (length text))) c.trim_ascii.result.now = search rules in
    trim_ascii_is (around text (min c.args.start (length text))) c.trim_ascii.result.now _ refl found
