use Rattle.std.proofs.Common.{sym, subst}
use Rattle.spdx_lines.specs.Answer.{AreKept}
use Rattle.spdx_lines.specs.Trees.{trees_in}
use Rattle.spdx_lines.specs.Found.{accepted_trees}
use Rattle.spdx_lines.proofs.Keeping.{accepted_more}
use Rattle.spdx_lines.proofs.all_lines.AllLinesVerdicts.answer.Goals as goal

pub returns-in_ok-keep-in-Some-clause-answered : goal.returns-in_ok-keep-in-Some-clause-answered
returns-in_ok-keep-in-Some-clause-answered c lines h =
    let all = c.args.self.now in
    let accepts = rw c.in-Some.is at c.in_ok-begin_answer.ensures in
    subst (λ ts. AreKept all.catalogue.now (trees_in c.keep.new.self) ts) (sym (accepted_more all.catalogue.now all.mode lines c.args.line.now c.in-Some.expression.tree accepts.column accepts.is))
    (c.in_ok-keep-in-Some.ensures all.catalogue.now (accepted_trees all.catalogue.now all.mode lines) h accepts.rows_are)
