use Rattle.std.proofs.Common.{ap, ◌∙◌}
use Rattle.std.specs.Option.{is_some}
use Rattle.license_tags.proofs.Occurring.{next_found, place_of-next}
use Rattle.license_tags.proofs.holds.Goals as goal

pub returns : goal.returns
returns c =
    let t = c.args.mark.now in
    let line = c.args.line.now in
    c.is_some.ensures ∙ ap is_some (place_of-next t c.requires line c.find.result (next_found t line c.find.result c.find.ensures))
