use Rattle.std.proofs.Common.{◌≡◌, Ok, Err, IfOk, IfErr, map, codes, subst}
use Rattle.package_items.specs.Rows.{Says, ItemRow, item_row}
use Rattle.package_items.specs.Nested.{in_list, with_parts}
use Rattle.package_sources.proofs.formats.cyclonedx.subject_parts.Goals as goal

pub returns-clause-ok : goal.returns-clause-ok
returns-clause-ok c =
    subst (λ (i : ItemRow). IfOk c.with_parts.result (λ v. with_parts (in_list (codes "components")) 64 i ≡ Ok (map item_row v.items))) c.in_ok-item.ensures c.with_parts.ensures.ok

pub returns-clause-err : goal.returns-clause-err
returns-clause-err c =
    subst (λ (i : ItemRow). IfErr c.with_parts.result (Says (λ f. with_parts (in_list (codes "components")) 64 i ≡ Err f))) c.in_ok-item.ensures c.with_parts.ensures.err
