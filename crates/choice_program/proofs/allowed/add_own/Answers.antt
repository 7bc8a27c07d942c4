use Rattle.std.proofs.Common.{refl}
use Rattle.std.specs.Option.{option_copied}
use Rattle.choice_program.specs.Judged.{HasNoOwnBy}
use Rattle.choice_program.proofs.Owning.{one_lacking, one_own, refused}
use Rattle.choice_program.proofs.allowed.add_own.Goals as goal

pub returns-in_ok-push-in-Ok : goal.returns-in_ok-push-in-Ok
returns-in_ok-push-in-Ok c =
    one_own c.args.listed.now (option_copied c.args.judgement) c.in-Ok.own c.args.all.now (record { own = c.push.new.self; lacking = c.args.all.now.lacking }) c.in-Ok.ensures.ok c.in_ok-push-in-Ok.ensures.items refl

pub returns-in_ok-push-in-Err-Refused : goal.returns-in_ok-push-in-Err-Refused
returns-in_ok-push-in-Err-Refused c =
    one_lacking c.args.listed.now (option_copied c.args.judgement) c.in-Err-Refused.one c.args.all.now (record { own = c.args.all.now.own; lacking = c.push-in-Err-Refused.new.self })
    (refused (HasNoOwnBy c.args.listed.now (option_copied c.args.judgement)) _ _ c.in-Err-Refused.field-0-is c.in-Err-Refused.ensures.err) refl c.in_ok-push-in-Err-Refused.ensures.items
