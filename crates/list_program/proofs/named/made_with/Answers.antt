use Rattle.std.proofs.lemmas.Result.{IfOk-weaker}
use Rattle.spdx_list.specs.Made.{Makes}
use Rattle.spdx_list.specs.Shown.{shown_extras}
use Rattle.list_program.specs.Named.{MakesWith}
use Rattle.list_program.proofs.Twice.{makes_with, refused_last}
use Rattle.list_program.proofs.named.made_with.Goals as goal

-- src/named.rt:213:1
pub returns-clause-ok : goal.returns-clause-ok
returns-clause-ok c =
    IfOk-weaker c.catalogue_of-2.result
    (Makes c.args.licenses.now c.args.exceptions.now (shown_extras c.in_ok-extras.extras))
    (MakesWith (shown_extras c.args.extras) c.args.licenses.now c.args.exceptions.now)
    (λ made makes. makes_with (shown_extras c.args.extras) (shown_extras c.new.result) (shown_extras c.in_ok-extras.extras)
    c.args.licenses.now c.args.exceptions.now c.in_ok-listed.listed made
    c.new.ensures c.in_ok-listed.ensures.ok c.in_ok-extras.ensures makes)
    c.catalogue_of-2.ensures.ok

pub returns-clause-err : goal.returns-clause-err
returns-clause-err c =
    refused_last (shown_extras c.args.extras) (shown_extras c.new.result) (shown_extras c.in_ok-extras.extras)
    c.args.licenses.now c.args.exceptions.now c.in_ok-listed.listed c.catalogue_of-2.result
    c.new.ensures c.in_ok-listed.ensures.ok c.in_ok-extras.ensures c.catalogue_of-2.ensures.err
