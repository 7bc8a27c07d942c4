use Rattle.std.proofs.Common.{sym, ◌∙◌, length, map, List, Some, None, ◌≡◌, ◌++◌}
use Rattle.spdx_catalogue.specs.RowRules.{RowRule}
use Rattle.spdx_catalogue.proofs.Table.{license_rules, exception_rules, fault_is}
use Rattle.spdx_catalogue.specs.RowChecks.{first_broken, all_below, imprecise_rules}
use Rattle.spdx_requirement.specs.Rows.{Rows, row_of, exception_of, imprecise_of}
use Rattle.spdx_catalogue.proofs.First.{first_some, first_none}
use Rattle.spdx_catalogue.proofs.Mapped.{length_map}
use Rattle.spdx_catalogue.proofs.Ascending.{licenses_ascend}
use Rattle.spdx_catalogue.proofs.checks.first_fault.Goals as goal

pub returns-in-Some : goal.returns-in-Some
returns-in-Some c =
    let ls = map row_of c.args.licenses.now in
    let es = map exception_of c.args.exceptions.now in
    let ms = map imprecise_of c.args.imprecise.now in
    let rows : Rows = record { version = c.args.version.now; licenses = ls; exceptions = es; imprecise = ms } in
    let front : first_broken (all_below (license_rules ls) (length ls)) ≡ Some c.in-Some.fault = rw (length_map row_of c.args.licenses.now) (sym c.in-Some.ensures) in
    sym (first_some (all_below (license_rules ls) (length ls)) (all_below (exception_rules es) (length es) ++ all_below (imprecise_rules ls ms) (length ms)) c.in-Some.fault front) ∙ sym (fault_is rows)

pub returns-in-Some-rows_fault : goal.returns-in-Some-rows_fault
returns-in-Some-rows_fault c =
    let ls = map row_of c.args.licenses.now in
    let es = map exception_of c.args.exceptions.now in
    let ms = map imprecise_of c.args.imprecise.now in
    let rows : Rows = record { version = c.args.version.now; licenses = ls; exceptions = es; imprecise = ms } in
    let names : List RowRule = all_below (license_rules ls) (length ls) in
    let excepted : List RowRule = all_below (exception_rules es) (length es) in
    let spelled : List RowRule = all_below (imprecise_rules ls ms) (length ms) in
    let front : first_broken names ≡ None = rw (length_map row_of c.args.licenses.now) (sym c.in-None.ensures) in
    let next : first_broken excepted ≡ Some c.in-Some-rows_fault.fault = rw (length_map exception_of c.args.exceptions.now) (sym c.in-Some-rows_fault.ensures) in
    sym (first_none names (excepted ++ spelled) front ∙ first_some excepted spelled c.in-Some-rows_fault.fault next) ∙ sym (fault_is rows)

pub returns-in-None-rows_fault : goal.returns-in-None-rows_fault
returns-in-None-rows_fault c =
    let ls = map row_of c.args.licenses.now in
    let es = map exception_of c.args.exceptions.now in
    let ms = map imprecise_of c.args.imprecise.now in
    let rows : Rows = record { version = c.args.version.now; licenses = ls; exceptions = es; imprecise = ms } in
    let names : List RowRule = all_below (license_rules ls) (length ls) in
    let excepted : List RowRule = all_below (exception_rules es) (length es) in
    let spelled : List RowRule = all_below (imprecise_rules ls ms) (length ms) in
    let front : first_broken names ≡ None = rw (length_map row_of c.args.licenses.now) (sym c.in-None.ensures) in
    let next : first_broken excepted ≡ None = rw (length_map exception_of c.args.exceptions.now) (sym c.in-None-rows_fault.ensures) in
    let back : c.imprecises_fault.result ≡ first_broken spelled = rw (length_map imprecise_of c.args.imprecise.now) c.imprecises_fault.ensures in
    back ∙ sym (first_none names (excepted ++ spelled) front ∙ first_none excepted spelled next) ∙ sym (fault_is rows)
