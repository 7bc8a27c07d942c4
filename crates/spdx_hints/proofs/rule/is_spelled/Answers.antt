use Rattle.std.proofs.Common.{rules, tests, ◌∙◌, string_bytes}
use Rattle.std.specs.Prelude.{bytes_eq}
use Rattle.std.specs.Borrow.{Bor}
use Rattle.std.proofs.lemmas.Iterator.{YieldsList-from_slice}
use Rattle.std.proofs.lemmas.Iterator.Search.{any_from_yields_List}
use Rattle.spdx_requirement.specs.declared.row.ImpreciseName.{ImpreciseName}
use Rattle.spdx_hints.proofs.Spelled.{any_spelled}
use Rattle.spdx_hints.proofs.rule.is_spelled.Goals as goal

pub returns : goal.returns
returns c =
    any_from_yields_List (λ (b : Bor ImpreciseName). bytes_eq (string_bytes b.now.name) (string_bytes c.args.row.now.name)) _ _ c.any.result c.any.ensures.ran
    (YieldsList-from_slice c.args.found.now cc) (λ x b q k. search (rules, tests))
    ∙ any_spelled (string_bytes c.args.row.now.name) c.args.found.now
