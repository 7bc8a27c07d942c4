use Rattle.std.proofs.Common.{sym}
use Rattle.toml.specs.View.{table_view}
use Rattle.manifests.proofs.TomlWays.{nothing_at, stands_at}
use Rattle.manifests.proofs.toml_sites.place_at.Goals as goal

pub returns-in_default-span_of-clause-nowhere : goal.returns-in_default-span_of-clause-nowhere
returns-in_default-span_of-clause-nowhere c = λ path at.
    let p = c.args.placed.now in
    nothing_at p.text.now (table_view p.document.now) p.paths.now p.spans.now c.args.number path c.requires at c.in_default-span_of.ensures

pub returns-clause-stands : goal.returns-clause-stands
returns-clause-stands c =
    let p = c.args.placed.now in
    stands_at p.text.now (table_view p.document.now) p.paths.now p.spans.now c.args.number c.in-Some.path.now c.in-Some-span_of.span c.requires
    (sym c.in-Some.ensures) c.in-Some-span_of.ensures
