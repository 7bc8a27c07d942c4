use Rattle.std.proofs.Common.{refl, ap}
use Rattle.std.proofs.lemmas.Result.{IfOk-weaker}
use Rattle.clap.specs.Walk.{texts}
use Rattle.spdx_words.specs.Commands as table
use Rattle.spdx_words.proofs.Building.{added_to, at_first, joined}
use Rattle.spdx_words.proofs.packages.command.sources.Goals as goal

pub returns : goal.returns
returns c =
    let forms : table.These table.source_forms = (c.as_slice.result, ap texts c.as_slice.ensures) in
    IfOk-weaker c.pointers.result _ _ (λ r adds. (
      forms,
      λ name options is.
          let start = at_first options c.args.command is in
          let own = added_to options _ _ _ start c.in_ok-arg.ensures c.flag.ensures refl in
          let from = added_to options _ _ _ own c.in_ok-arg-2.ensures c.choice-from.ensures refl in
          let header = added_to options _ _ _ from c.in_ok-command.ensures c.flag-2.ensures refl in
          joined options _ table.pointers r (adds name _ header),
    )) c.pointers.ensures
