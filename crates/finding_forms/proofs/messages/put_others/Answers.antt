use Rattle.std.proofs.Common.{◌≤◌, length, arith, string_bytes}
use Rattle.finding_forms.proofs.Names.{others_written}
use Rattle.finding_forms.proofs.messages.put_others.Goals as goal

pub returns : goal.returns
returns c =
    let all : length c.in-Some.front.now ≤ c.loop-name.name-index = omega arith in
    rw (c.in_ok-put_named-2.ensures, c.in_ok-push_str-2.ensures.bytes, c.loop-name.invariant, c.in-Some.ensures.cases.0)
    (others_written c.args.how c.in-Some.front.now c.in-Some.last.now c.loop-name.name-index (string_bytes c.args.line.now) all)
