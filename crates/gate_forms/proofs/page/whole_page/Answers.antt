use Rattle.std.proofs.Common.{codes}
use Rattle.foreign_text.specs.PageText.{page_text}
use Rattle.gate_forms.specs.Top.{page_top}
use Rattle.gate_forms.specs.Page.{title_part, refused_section, unstated_section, allowed_section}
use Rattle.gate_forms.proofs.PageLaws.{in_a_row}
use Rattle.gate_forms.proofs.page.whole_page.Goals as goal

pub returns : goal.returns
returns c =
    let totals = c.args.totals.now in
    let reports = c.args.reports.now in
    rw (c.in_ok-extend_from_slice.ensures.items, c.in_ok-put_allowed.ensures, c.in_ok-put_unstated.ensures, c.in_ok-put_refused.ensures, c.in_ok-put_title.ensures, c.in_ok-put_top.ensures, c.new-page.ensures.items)
    (in_a_row page_top (title_part page_text c.args.policy.now totals) (refused_section page_text totals reports) (unstated_section page_text totals reports) (allowed_section page_text totals reports) (codes "</main>\n</body>\n</html>\n"))
