use Rattle.std.proofs.Common.{◌≡◌, ◌∙◌, None, string_bytes, sym}
use Rattle.spdx_tables.specs.TableReading.{rows_of}
use Rattle.spdx_catalogue.specs.RowRules.{first_fault}
use Rattle.spdx_list.proofs.Back.{catalogue_back}
use Rattle.spdx_list.proofs.text.list_text.Goals as goal

pub returns-in-Ok-clause-ok : goal.returns-in-Ok-clause-ok
returns-in-Ok-clause-ok c =
    let made = rows_of c.in_ok-tables.tables in
    let makes = c.in_ok-tables.ensures.ok in
    let sound : None ≡ first_fault made = c.in-Ok.ensures.fault in
    let reads = catalogue_back (string_bytes c.in_ok-text.text) makes.0 made makes.2 (sym sound) c.in_ok-text.ensures.tables in
    (made, makes, reads, c.in_ok-text.ensures.date ∙ c.in_ok-date.ensures)
