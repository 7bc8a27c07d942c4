use Rattle.std.proofs.Common.{◌≡◌, ◌∙◌, ◌++◌, suc, sym, ap, List, ◌∷◌, [], map, rules, true, false, Ok}
use Rattle.std.specs.List.{list_all}
use Rattle.std.specs.Vec.Iter.{into_iter_items}
use Rattle.std.proofs.lemmas.List.{map-append}
use Rattle.csv.specs.Records.{Row, fields_of}
use Rattle.package_items.specs.Rows.{row_of}
use Rattle.package_items.specs.Texts.{is_blank}
use Rattle.package_items.specs.Members.{on_ok}
use Rattle.package_readers.specs.Tables.{each_record, package_of}
use Rattle.package_readers.proofs.Tables.{blank_row, read_row}
use Rattle.package_readers.proofs.table.packages_of.Goals as goal
use Rattle.package_readers.proofs.table.packages_of.Goals.{then-not-are_blank+in_ok-package_of+in_ok-push, else-not-are_blank}

pub loop-row-preserved : goal.loop-row-preserved
loop-row-preserved c =
    let number = c.loop-row.number in
    let next : c.in_ok-number.number ≡ suc number = c.in_ok-number.ensures in
    let row = c.in-Some.row in
    let rest = into_iter_items c.next.new.self in
    let at : into_iter_items c.loop-row.row-iterator ≡ row ∷ rest = c.in-Some.ensures.steps.0 in
    let old = map row_of c.loop-row.packages.items in
    let inv = c.loop-row.invariant ∙ ap (λ (rs : List Row). on_ok (each_record (package_of c.args.named) number (map fields_of rs)) (λ ps. Ok (old ++ ps))) at in
    let all : c.are_blank.result ≡ list_all is_blank (fields_of row) =
    rw (c.as_slice.ensures.value, c.in_ok-values.ensures) at c.are_blank.ensures in
    elim c.if-not-are_blank.branch [
      | then-not-are_blank+in_ok-package_of+in_ok-push w ↦
          let p = w.in_ok-package_of.field-0 in
          let stated : list_all is_blank (fields_of row) ≡ false = sym all ∙ search rules in
          let good : package_of c.args.named number (fields_of row) ≡ Ok (row_of p) =
          rw (w.as_slice-then-not-are_blank.ensures.value, c.in_ok-values.ensures) at w.in_ok-package_of.ensures.ok in
          let more = read_row (package_of c.args.named) number c.in_ok-number.number (fields_of row) (map fields_of rest) old (row_of p) next stated good in
          rw (w.packages-is, w.in_ok-push.ensures.items, map-append row_of c.loop-row.packages.items (p ∷ [])) (inv ∙ more)
      | else-not-are_blank w ↦
          let blank : list_all is_blank (fields_of row) ≡ true = sym all ∙ search rules in
          let more = blank_row (package_of c.args.named) number c.in_ok-number.number (fields_of row) (map fields_of rest) next blank in
          rw w.packages-is (inv ∙ ap (λ r. on_ok r (λ ps. Ok (old ++ ps))) more)
    ]
