use Rattle.std.proofs.Common.{arith}
use Rattle.std.proofs.lemmas.Str.Pattern.{strip_prefix_char}
use Rattle.spdx_list.proofs.Blanks.{strip_v}
use Rattle.spdx_list.proofs.forms.less_v.Goals as goal

pub returns-in-Some : goal.returns-in-Some
returns-in-Some c =
    let stripped = strip_v c.args.word.now _ (strip_prefix_char 118 c.args.word.now _ c.strip_prefix.ensures.cases (omega arith)) in
    rw c.in-Some.is at stripped

pub returns-in-None : goal.returns-in-None
returns-in-None c =
    let stripped = strip_v c.args.word.now _ (strip_prefix_char 118 c.args.word.now _ c.strip_prefix.ensures.cases (omega arith)) in
    rw c.in-None.is at stripped
