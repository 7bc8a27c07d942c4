use Rattle.std.proofs.Common.{sym, subst}
use Rattle.spdx_meaning.specs.declared.relation.Relation.{Relation}
use Rattle.spdx_meaning.specs.Relations.{IsRelation}
use Rattle.spdx_meaning.proofs.Relating.{is_relation}
use Rattle.spdx_calls.proofs.meaning.relation_between.Goals as goal

pub returns-clause-ok : goal.returns-clause-ok
returns-clause-ok c =
    let t = c.args.one.now.tree in
    let u = c.args.other.now.tree in
    subst (λ (r : Relation). IsRelation t u r) (sym c.relation_of.ensures) (is_relation t u c.in_ok-forth.forth c.in_ok-back.back c.in_ok-forth.ensures.ok c.in_ok-back.ensures.ok)
