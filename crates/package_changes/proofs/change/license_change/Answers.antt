use Rattle.std.proofs.Common.{rules, ◌≢◌}
use Rattle.std.proofs.lemmas.Result.{IfOk-weaker}
use Rattle.spdx_evaluation.specs.Postfix.{tree_in}
use Rattle.package_changes.specs.declared.change.reading.Reading.TheVariants.{Said}
use Rattle.package_changes.specs.Reading.{IsSaid}
use Rattle.package_changes.specs.Found.{IsRead}
use Rattle.package_changes.specs.Changing.{IsLicenseChange}
use Rattle.package_changes.proofs.Turning.{turns, lifted}
use Rattle.package_changes.proofs.change.license_change.Goals as goal

pub returns-in_err-before-clause-turned : goal.returns-in_err-before-clause-turned
returns-in_err-before-clause-turned c = turns c.args.catalogue.now c.args.old.now c.args.new.now

pub returns-in_err-after-clause-turned : goal.returns-in_err-after-clause-turned
returns-in_err-after-clause-turned c = turns c.args.catalogue.now c.args.old.now c.args.new.now

pub returns-in-Said-Said-clause-exact : goal.returns-in-Said-Said-clause-exact
returns-in-Said-Said-clause-exact c =
    let list = c.args.catalogue.now in
    let old = c.args.old.now in
    let new = c.args.new.now in
    let read_one : IsRead list old (Said c.in-Said-Said.before) = rw c.in-Said-Said.is-0 at c.in_ok-before.ensures in
    let read_other : IsRead list new (Said c.in-Said-Said.after) = rw c.in-Said-Said.is-1 at c.in_ok-after.ensures in
    let one : IsSaid list old (tree_in c.as_slice.result.now) = rw c.as_slice.ensures read_one.0 in
    let other : IsSaid list new (tree_in c.as_slice-in-Said-Said.result.now) = rw c.as_slice-in-Said-Said.ensures read_other.0 in
    let differ : old ≢ new = search rules in
    IfOk-weaker c.said_change.result _ (IsLicenseChange list old new) (lifted list old new _ _ differ one other) c.said_change.ensures

pub returns-in-Said-Said-clause-turned : goal.returns-in-Said-Said-clause-turned
returns-in-Said-Said-clause-turned c = turns c.args.catalogue.now c.args.old.now c.args.new.now

pub returns-clause-turned : goal.returns-clause-turned
returns-clause-turned c = turns c.args.catalogue.now c.args.old.now c.args.new.now
