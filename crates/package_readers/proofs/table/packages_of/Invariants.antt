use Rattle.std.proofs.Common.{◌≡◌, ◌++◌, Ok, map}
use Rattle.std.specs.Vec.Iter.{into_iter_items}
use Rattle.csv.specs.Records.{fields_of}
use Rattle.package_items.specs.Rows.{row_of}
use Rattle.package_items.specs.Members.{on_ok}
use Rattle.package_readers.specs.Tables.{each_record, package_of, packages_of}
use Rattle.package_readers.proofs.table.packages_of.Given as goal

abbrev pub invariant-loop-row : goal.invariant-loop-row
invariant-loop-row l =
    packages_of l.named (map fields_of (into_iter_items l.fn.records))
    ≡ on_ok (each_record (package_of l.named) l.number (map fields_of (into_iter_items l.row-iterator))) (λ rows. Ok (map row_of l.packages.items ++ rows))
