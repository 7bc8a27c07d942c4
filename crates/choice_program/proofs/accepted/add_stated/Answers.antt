use Rattle.std.proofs.Common.{refl}
use Rattle.choice_program.proofs.Stating.{one_stated, one_unread}
use Rattle.choice_program.proofs.accepted.add_stated.Goals as goal

pub returns-in_ok-push-in-Ok : goal.returns-in_ok-push-in-Ok
returns-in_ok-push-in-Ok c ps before =
    one_stated c.args.catalogue.now c.args.mode c.args.listed.now _ c.args.all.now (record { stated = c.push.new.self; lacking = c.args.all.now.lacking }) ps before refl c.in-Ok.ensures.ok c.in_ok-push-in-Ok.ensures.items refl

pub returns-in_ok-push-in-Err-Refused : goal.returns-in_ok-push-in-Err-Refused
returns-in_ok-push-in-Err-Refused c ps before =
    one_unread c.args.catalogue.now c.args.mode c.args.listed.now c.in-Err-Refused.one _ c.args.all.now (record { stated = c.args.all.now.stated; lacking = c.push-in-Err-Refused.new.self }) ps before
    c.in-Err-Refused.field-0-is c.in-Err-Refused.ensures.err refl c.in_ok-push-in-Err-Refused.ensures.items
