use Rattle.std.proofs.Common.{◌≡◌, Ok, Err, IfOk, IfErr, map, codes, subst}
use Rattle.package_items.specs.Rows.{Says, ItemRow, item_row}
use Rattle.package_items.specs.Nested.{in_object, with_parts}
use Rattle.package_sources.specs.Npm.{tree_parts}
use Rattle.package_sources.proofs.formats.npm.tree_parts.Goals as goal

pub returns-clause-ok : goal.returns-clause-ok
unfolding tree_parts
returns-clause-ok c =
    subst (λ (i : ItemRow). IfOk c.with_parts.result (λ v. with_parts (in_object (codes "dependencies")) 64 i ≡ Ok (map item_row v.items))) c.root_item-root.ensures c.with_parts.ensures.ok

pub returns-clause-err : goal.returns-clause-err
unfolding tree_parts
returns-clause-err c =
    subst (λ (i : ItemRow). IfErr c.with_parts.result (Says (λ f. with_parts (in_object (codes "dependencies")) 64 i ≡ Err f))) c.root_item-root.ensures c.with_parts.ensures.err
