use Rattle.std.proofs.Common.{◌≡◌, List, map, subst, ap, ◌∙◌, arith}
use Rattle.std.proofs.lemmas.List.{take_all}
use Rattle.license_notice.specs.declared.packages.Group.{Group}
use Rattle.license_notice.specs.Notices.{line_of, bands_of}
use Rattle.license_notice.specs.Once.{AreOnce}
use Rattle.license_notice.specs.Places.{lines_in}
use Rattle.license_notice.specs.Rows.{Line}
use Rattle.license_notice.proofs.Turned.{by_package}
use Rattle.license_notice.proofs.once.packages_in.Goals as goal

pub returns : goal.returns
returns c =
    let all : map line_of c.loop-group.all.items ≡ lines_in (bands_of c.args.groups.now) =
    c.loop-group.invariant ∙ ap (λ (gs : List Group). lines_in (bands_of gs)) (take_all c.loop-group.group-index c.args.groups.now (omega arith)) in
    by_package (bands_of c.args.groups.now) _ (subst (λ (ls : List Line). AreOnce ls (map line_of c.each_once.result.items)) all c.each_once.ensures)
