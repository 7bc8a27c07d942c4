use Rattle.std.proofs.Common.{map, subst}
use Rattle.std.proofs.lemmas.List.{take_all}
use Rattle.package_files.specs.All.{AreListed, path_in}
use Rattle.package_files.proofs.Each.{none_yet, one_more, whole}
use Rattle.package_files.proofs.all.all_listed_at.Goals as goal

pub loop-path-init : goal.loop-path-init
loop-path-init g c = none_yet (g.S.Shelf.told c.args.shelf.now) c.args.wanted c.new.result.items c.new-2.result.items c.new.ensures.items c.new-2.ensures.items

pub loop-path-preserved : goal.loop-path-preserved
loop-path-preserved g c =
    one_more (g.S.Shelf.told c.args.shelf.now) c.args.wanted c.args.paths.now c.loop-path.path-index _ c.loop-path.all c.add.new.all
    c.loop-path.invariant c.loop-path-test.true c.in_ok-add.ensures

pub returns-clause-whole : goal.returns-clause-whole
returns-clause-whole g c none =
    let s = g.S.Shelf.told c.args.shelf.now in
    whole s c.args.wanted (map path_in c.args.paths.now) c.loop-path.all.files.items c.loop-path.all.left_out.items
    (subst (λ ps. AreListed s c.args.wanted (map path_in ps) c.loop-path.all.files.items c.loop-path.all.left_out.items)
    (take_all c.loop-path.path-index c.args.paths.now c.loop-path-test.false) c.loop-path.invariant) none
