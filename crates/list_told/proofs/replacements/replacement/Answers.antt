use Rattle.std.proofs.lemmas.Result.{IfOk-weaker}
use Rattle.spdx_list.specs.Shown.{shown_extras}
use Rattle.list_told.proofs.Succeeding.{if_some}
use Rattle.list_told.proofs.replacements.replacement.Goals as goal

pub returns-clause-other : goal.returns-clause-other
returns-clause-other c =
    IfOk-weaker c.replacement_of.result _ _ (λ replacement is. if_some c.args.catalogue.now (shown_extras c.args.extras.now) c.args.name.now replacement is) c.replacement_of.ensures
