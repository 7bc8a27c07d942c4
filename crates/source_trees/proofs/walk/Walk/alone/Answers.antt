use Rattle.source_trees.proofs.Steps.{alone}
use Rattle.source_trees.proofs.walk.Walk.alone.Goals as goal

-- src/walk.rt
pub returns : goal.returns
returns c = alone c.in_ok-stops.stops.items _ c.args.path.now c.args.is_folder
    c.in_ok-stops.ensures c.in_ok-path.ensures.ok c.root_visit-visit.ensures
