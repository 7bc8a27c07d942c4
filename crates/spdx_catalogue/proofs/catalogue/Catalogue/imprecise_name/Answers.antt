use Rattle.std.proofs.Common.{rules, ◌≡◌, List, string_bytes, option_map, find, map, ap, sym, ◌∙◌}
use Rattle.std.specs.Option.{option_copied}
use Rattle.spdx_catalogue.specs.Names.{begins_caseless}
use Rattle.spdx_requirement.specs.Rows.{ImpreciseRow, imprecise_of}
use Rattle.spdx_requirement.specs.declared.row.ImpreciseName.{ImpreciseName}
use Rattle.spdx_catalogue.proofs.Spellings.{imprecise_row}
use Rattle.spdx_catalogue.specs.CatalogueModel.{rows_shown}
use Rattle.spdx_catalogue.proofs.Listed.{prefix_taken}
use Rattle.spdx_catalogue.proofs.Mapped.{find_map}
use Rattle.spdx_catalogue.proofs.Relevant.{front_relevant}
use Rattle.spdx_catalogue.proofs.catalogue.Catalogue.imprecise_name.Goals as goal

pub first-requires-clause-index : goal.first-requires-clause-index
first-requires-clause-index c =
    let same = c.deref.ensures.value in
    rw same c.self.invariant.prefixes

pub first-requires-clause-relevant : goal.first-requires-clause-relevant
first-requires-clause-relevant c = front_relevant (λ (r : ImpreciseName). string_bytes r.prefix) c.args.text

pub returns-clause-value : goal.returns-clause-value
returns-clause-value c =
    let rows : List ImpreciseName = c.self.inside.imprecise.items in
    let own : option_copied c.first.result ≡ find (λ (r : ImpreciseName). begins_caseless (string_bytes r.prefix) c.args.text.now) rows = search rules in
    let rows_shown : option_map imprecise_of (option_copied c.first.result) ≡ find (λ (r : ImpreciseRow). begins_caseless r.prefix c.args.text.now) (map imprecise_of rows) =
    ap (option_map imprecise_of) own ∙ sym (find_map (λ (r : ImpreciseRow). begins_caseless r.prefix c.args.text.now) imprecise_of rows) in
    rw (← c.self.view_is) rows_shown

pub returns-clause-taken : goal.returns-clause-taken
returns-clause-taken c =
    let rows : List ImpreciseName = c.self.inside.imprecise.items in
    let own : option_copied c.first.result ≡ find (λ (r : ImpreciseName). begins_caseless (string_bytes r.prefix) c.args.text.now) rows = search rules in
    let shown_row : option_map imprecise_of (option_copied c.first.result) ≡ imprecise_row (map imprecise_of rows) c.args.text.now =
    ap (option_map imprecise_of) own ∙ sym (find_map (λ (r : ImpreciseRow). begins_caseless r.prefix c.args.text.now) imprecise_of rows) in
    prefix_taken (rows_shown c.self.inside) c.self.invariant.rules c.args.text.now c.first.result shown_row
