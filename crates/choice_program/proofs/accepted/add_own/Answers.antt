use Rattle.std.proofs.Common.{refl}
use Rattle.choice_program.specs.Among.{meant_of}
use Rattle.choice_program.proofs.Stating.{one_own, one_unmet}
use Rattle.choice_program.proofs.accepted.add_own.Goals as goal

pub returns-in_ok-push-in-Ok : goal.returns-in_ok-push-in-Ok
returns-in_ok-push-in-Ok c meant before =
    one_own c.args.accepted.now (meant_of c.args.one.now) c.in-Ok.choice c.args.own.now (record { choices = c.push.new.self; lacking = c.args.own.now.lacking }) meant before c.in-Ok.ensures.ok c.in_ok-push-in-Ok.ensures.items refl

pub returns-in_ok-push-in-Err-Refused : goal.returns-in_ok-push-in-Err-Refused
returns-in_ok-push-in-Err-Refused c meant before =
    one_unmet c.args.accepted.now (meant_of c.args.one.now) c.in-Err-Refused.lacking _ c.args.own.now (record { choices = c.args.own.now.choices; lacking = c.push-in-Err-Refused.new.self }) meant before
    c.in-Err-Refused.field-0-is c.in-Err-Refused.ensures.err refl c.in_ok-push-in-Err-Refused.ensures.items
