use Rattle.std.proofs.Common.{◌≡◌, ◌++◌, IfOk, OnOk, subst}
use Rattle.spdx_check.specs.Known.{Tells}
use Rattle.spdx_check.proofs.lines.put_line.Goals as goal

-- what is remembered tells what is found
pub returns-in-Some-clause-text : goal.returns-in-Some-clause-text
returns-in-Some-clause-text c =
    λ held. subst (λ xs. OnOk c.put_known.result (c.put_known.new.text.items ≡ c.args.text.now.items ++ xs))
    ((c.in-Some.ensures c.args.check.now c.args.file.now held).text c.args.is_first c.args.line) c.put_known.ensures.text

pub returns-in-Some-clause-refuses : goal.returns-in-Some-clause-refuses
returns-in-Some-clause-refuses c =
    λ held. subst (λ b. IfOk c.put_known.result (λ refused. refused ≡ b)) (c.in-Some.ensures c.args.check.now c.args.file.now held).refuses c.put_known.ensures.refuses

-- what is kept tells what was found
pub returns-clause-known : goal.returns-clause-known
returns-clause-known c =
    λ held. c.keep.ensures c.args.check.now c.args.file.now held
    (subst (λ found. Tells c.args.check.now.format c.args.file.now found c.in_ok-known.known) c.in_ok-found.ensures c.in_ok-known.ensures)
