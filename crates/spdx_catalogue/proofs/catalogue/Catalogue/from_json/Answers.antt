use Rattle.std.proofs.Common.{rules, ◌≡◌, None, Some, Ok, Err, sym, ◌∙◌, ap}
use Rattle.spdx_requirement.specs.Rows.{Rows}
use Rattle.spdx_tables.specs.TableReading.{rows_of, tables_in}
use Rattle.spdx_catalogue.specs.RowRules.{first_fault}
use Rattle.spdx_catalogue.specs.Reading.{checked, catalogue_in}
use Rattle.spdx_catalogue.proofs.Faulted.{unless_fault}
use Rattle.spdx_catalogue.proofs.catalogue.Catalogue.from_json.Goals as goal

pub returns-in-Err-Refused-clause-err : goal.returns-in-Err-Refused-clause-err
unfolding catalogue_in
returns-in-Err-Refused-clause-err c =
    let read : tables_in c.args.bytes.now ≡ Err c.in-Err-Refused.fault = search rules in
    ap checked read ∙ ap Err (sym c.read_fault.ensures)

pub returns-in-Ok-new-clause-ok : goal.returns-in-Ok-new-clause-ok
unfolding catalogue_in
returns-in-Ok-new-clause-ok c =
    let rows : Rows = rows_of c.in-Ok.tables in
    let read : tables_in c.args.bytes.now ≡ Ok rows = search rules in
    let fault : None ≡ first_fault rows = search rules in
    ap checked read ∙ ap (λ o. unless_fault o rows) (sym fault) ∙ ap Ok (sym c.in-Ok-new.ensures.rows)

pub returns-in-Err-clause-err : goal.returns-in-Err-clause-err
unfolding catalogue_in
returns-in-Err-clause-err c =
    let rows : Rows = rows_of c.in-Ok.tables in
    let read : tables_in c.args.bytes.now ≡ Ok rows = search rules in
    let fault : Some c.in-Err.fault ≡ first_fault rows = search rules in
    ap checked read ∙ ap (λ o. unless_fault o rows) (sym fault)
