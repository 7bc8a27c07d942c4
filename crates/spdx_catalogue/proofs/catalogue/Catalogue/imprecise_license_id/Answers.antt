use Rattle.std.proofs.Common.{◌≡◌, rules, length, List, Some, string_bytes, subst, sym, IsCharBoundary}
use Rattle.std.proofs.lemmas.Str.{IsUtf8-string_bytes}
use Rattle.spdx_catalogue.specs.Names.{begins_caseless}
use Rattle.spdx_requirement.specs.Rows.{ImpreciseRow, imprecise_of}
use Rattle.spdx_catalogue.proofs.Spellings.{imprecise_row}
use Rattle.spdx_catalogue.proofs.Caseless.{find_passes, caseless_cut}
use Rattle.spdx_catalogue.proofs.catalogue.Catalogue.imprecise_license_id.Goals as goal

pub returns-clause-cut : goal.returns-clause-cut
returns-clause-cut c =
    let m = c.in_ok-name.name.now in
    let text = c.args.text.now in
    let rows : List ImpreciseRow = c.args.self.now.imprecise in
    let len : c.len.result ≡ length (string_bytes m.prefix) = search rules in
    let found : Some (imprecise_of m) ≡ imprecise_row rows text = search rules in
    subst (IsCharBoundary text) (sym len) (caseless_cut (string_bytes m.prefix) text (IsUtf8-string_bytes m.prefix) c.utf8.text (find_passes (λ (r : ImpreciseRow). begins_caseless r.prefix text) rows (imprecise_of m) found))
