use Rattle.std.proofs.Common.{◌≡◌, ◌∙◌, ◌↔◌, List, Contains, map, subst}
use Rattle.license_notice.specs.declared.packages.Package as noted_as
use Rattle.license_notice.specs.Notices.{bands_of}
use Rattle.license_notice.specs.Rows.{Row, all_rows}
use Rattle.license_notice.specs.Wanted.{chosen_rows}
use Rattle.notice_told.specs.Page.{noted}
use Rattle.notice_told.proofs.page.groups_of.Goals as goal

pub returns : goal.returns
returns c =
    let same : c.deref.result.now ≡ map noted c.args.packages.now = c.deref.ensures.value ∙ c.in_ok-all.ensures in
    let bands = bands_of c.in_ok-notice.notice.groups.items in
    record {
      chosen = subst (λ (ps : List noted_as.Package). (r : Row) → Contains (all_rows bands) r ↔ Contains (chosen_rows ps) r) same c.in_ok-notice.ensures.chosen;
      ascend = c.in_ok-notice.ensures.ascend;
      groups_ascend = c.in_ok-notice.ensures.groups_ascend;
      none_empty = c.in_ok-notice.ensures.none_empty;
    }
