use Rattle.std.proofs.Common.{rules, tests}
use Rattle.std.proofs.lemmas.Iterator.{YieldsList-from_slice}
use Rattle.std.proofs.lemmas.Iterator.Search.{all_from_yields_List}
use Rattle.spdx_list.specs.Forms.{is_version_byte}
use Rattle.spdx_list.proofs.forms.has_version_bytes.Goals as goal

pub returns : goal.returns
returns c =
    all_from_yields_List is_version_byte _ _ c.all.result c.all.ensures.ran
    (YieldsList-from_slice c.args.word.now cc) (λ x b q k. search (rules, tests))
