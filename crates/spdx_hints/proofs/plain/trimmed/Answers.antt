use Rattle.std.proofs.Common.{refl, rules}
use Rattle.std.specs.Str.{IsTrimAscii}
use Rattle.std.proofs.lemmas.Str.Ascii.{trim_ascii_is}
use Rattle.spdx_hints.proofs.plain.trimmed.Goals as goal

pub returns : goal.returns
returns c =
    let found : IsTrimAscii c.args.text.now c.trim_ascii.result.now = search rules in
    trim_ascii_is c.args.text.now c.trim_ascii.result.now _ refl found
