use Rattle.std.proofs.Common.{append_assoc}
use Rattle.gate_forms.proofs.page.put_item_head.Goals as goal

pub returns : goal.returns
returns c =
    rw (c.in_ok-put_element-3.ensures, c.as_str-2.ensures.value, c.in_ok-verdict.ensures, c.in_ok-put_element-2.ensures, c.in_ok-put_news.ensures, c.in_ok-put_element.ensures, c.as_str.ensures.value, c.in_ok-package.ensures)
    (simp append_assoc)
