use Rattle.std.proofs.Common.{map}
use Rattle.owed_texts.specs.Held.{name_in}
use Rattle.owed_texts.proofs.Firsts.{one_more}
use Rattle.owed_texts.proofs.held.names_of.Goals as goal

pub loop-lack-preserved : goal.loop-lack-preserved
loop-lack-preserved c =
    one_more c.args.lacks.now c.loop-lack.lack-index _ (map name_in c.loop-lack.names.items) (map name_in c.put.new.names.items)
    c.loop-lack.invariant c.loop-lack-test.true c.in_ok-put.ensures
