use Rattle.spdx_canonical.proofs.Drafts.{off_more, err_any}
use Rattle.spdx_canonical.proofs.text.push_both.Goals as goal

pub returns-in_err-push-clause-err : goal.returns-in_err-push-clause-err
returns-in_err-push-clause-err c = err_any c.from_residual.result (off_more c.args.draft.now c.args.first.now c.args.second.now c.in_err-push.ensures.err)
