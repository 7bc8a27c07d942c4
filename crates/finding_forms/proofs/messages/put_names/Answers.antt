use Rattle.std.proofs.Common.{ℕ, List, map, codes, string_bytes}
use Rattle.std.specs.Borrow.{Bor}
use Rattle.finding_forms.specs.Message.{named, other_names}
use Rattle.finding_forms.proofs.Names.{in_a_row}
use Rattle.finding_forms.proofs.messages.put_names.Goals as goal

pub returns : goal.returns
returns c =
    let how = c.args.how in
    let others = map (λ (x : Bor (List ℕ)). x.now) c.in-Some.others.now in
    rw (c.in_ok-push_str-2.ensures.bytes, c.in_ok-put_others.ensures, c.in_ok-put_named.ensures, c.in_ok-push_str.ensures.bytes, c.in-Some.ensures.cases.0)
    (in_a_row (string_bytes c.args.line.now) (codes "did you mean ") (named how c.in-Some.first.now.now) (other_names how others) (codes "?"))
