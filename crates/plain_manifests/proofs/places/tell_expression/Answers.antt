use Rattle.std.proofs.Common.{rules, tests}
use Rattle.std.specs.Char.{is_ascii_whitespace}
use Rattle.std.proofs.lemmas.Iterator.Splits.{YieldsList-from_slice_split}
use Rattle.std.proofs.lemmas.Iterator.Search.{any_from_yields_List}
use Rattle.plain_manifests.specs.Places as spec
use Rattle.plain_manifests.proofs.places.tell_expression.Goals as goal

pub returns : goal.returns
returns c =
    any_from_yields_List spec.tells_expression _ _ c.any.result c.any.ensures.ran
    (YieldsList-from_slice_split _ is_ascii_whitespace c.args.attributes.now c.split.ensures.rest c.split.ensures.done c.split.ensures.closure (λ x b q k. search (rules, tests)))
    (λ x b q k. search (rules, tests))
