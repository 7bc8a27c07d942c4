use Rattle.std.proofs.Common.{◌≡◌, List, Contains, map, sym, ap, ◌∙◌, subst}
use Rattle.std.specs.List.Sorted.{IsStrictlySortedBy}
use Rattle.license_notice.specs.Rows.{Row, row_cmp, all_rows}
use Rattle.license_notice.specs.Stands.{row_of}
use Rattle.license_notice.specs.Notices.{bands_of}
use Rattle.license_notice.proofs.Bands.{rows_grouped, names_grouped, none_empty}
use Rattle.license_notice.proofs.notice_of.Goals as goal

pub returns-clause-chosen : goal.returns-clause-chosen
returns-clause-chosen c =
    let rows : all_rows (bands_of c.in_ok-groups.groups.items) ≡ map row_of c.in_ok-stands.stands.items = ap all_rows (rw (c.deref.ensures.value) at c.in_ok-groups.ensures) ∙ rows_grouped (map row_of c.in_ok-stands.stands.items) in
    λ r. (λ h. c.in_ok-stands.ensures.adds_none r (subst (λ (rs : List Row). Contains rs r) rows h), λ h. subst (λ (rs : List Row). Contains rs r) (sym rows) (c.in_ok-stands.ensures.keeps r h))

pub returns-clause-ascend : goal.returns-clause-ascend
returns-clause-ascend c =
    let rows : all_rows (bands_of c.in_ok-groups.groups.items) ≡ map row_of c.in_ok-stands.stands.items = ap all_rows (rw (c.deref.ensures.value) at c.in_ok-groups.ensures) ∙ rows_grouped (map row_of c.in_ok-stands.stands.items) in
    subst (IsStrictlySortedBy row_cmp) (sym rows) c.in_ok-stands.ensures.ascend

pub returns-clause-groups_ascend : goal.returns-clause-groups_ascend
returns-clause-groups_ascend c =
    rw (c.in_ok-groups.ensures, c.deref.ensures.value) (names_grouped (map row_of c.in_ok-stands.stands.items) c.in_ok-stands.ensures.ascend)

pub returns-clause-none_empty : goal.returns-clause-none_empty
returns-clause-none_empty c = rw (c.in_ok-groups.ensures, c.deref.ensures.value) (none_empty (map row_of c.in_ok-stands.stands.items))
