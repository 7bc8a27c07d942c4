use Rattle.check_files.specs.Tally.{tally_of}
use Rattle.check_program.proofs.Seeing.{one_more_passed}
use Rattle.std.proofs.Common.{refl, rules}
use Rattle.check_files.proofs.Doing.{hears_nil}
use Rattle.std.proofs.lemmas.Iterator.Adapters.{YieldsList-from_vec}
use Rattle.std.proofs.lemmas.Iterator.Consumers.{YieldsList-so_far}
use Rattle.line_engine.proofs.Known.{OnErr-always}
use Rattle.check_program.proofs.TreeBegun.{passed_begun}
use Rattle.check_program.proofs.ends.pass_all.Goals as goal

pub loop-trouble-init : goal.loop-trouble-init
loop-trouble-init g c = record { tells = hears_nil (g.T.Telling.told c.args.teller.now); counts = refl; have_memory = refl }

pub loop-trouble-preserved : goal.loop-trouble-preserved
loop-trouble-preserved g c =
    one_more_passed c.loop-trouble.yielded c.in-Some.trouble (g.T.Telling.told c.args.teller.now) (g.T.Telling.told c.loop-trouble.teller) (g.T.Telling.told c.pass_over.new.teller)
    (tally_of c.args.sums.now) (tally_of c.loop-trouble.sums) (tally_of c.pass_over.new.sums) c.loop-trouble.invariant c.in_ok-pass_over.ensures.ok

pub returns-in_err-pass_over-clause-begun : goal.returns-in_err-pass_over-clause-begun
returns-in_err-pass_over-clause-begun g c =
    let list = YieldsList-from_vec {s = c.into_iter-trouble-iterator.result} c.args.troubles.items (search rules) (search rules) in
    let front = YieldsList-so_far list c.loop-trouble.yielded c.loop-trouble.trouble-iterator c.loop-trouble.yielded_by in
    OnErr-always c.from_residual.result _
    (passed_begun (g.T.Telling.told c.args.teller.now) (g.T.Telling.told c.loop-trouble.teller) (g.T.Telling.told c.pass_over.new.teller) c.args.troubles.items c.loop-trouble.yielded
    (tally_of c.args.sums.now) (tally_of c.loop-trouble.sums) front c.loop-trouble.invariant c.in_err-pass_over.ensures.memory)
