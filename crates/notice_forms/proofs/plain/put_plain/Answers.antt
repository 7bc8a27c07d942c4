use Rattle.std.proofs.Common.{append_assoc}
use Rattle.notice_forms.proofs.plain.put_plain.Goals as goal

pub returns : goal.returns
returns c =
    rw (
      c.in_ok-put_texts.ensures,
      c.in_ok-put_bands.ensures,
      c.in_ok-put_entries.ensures,
      c.in_ok-extend_from_slice.ensures.items,
      c.in_ok-put_line_text.ensures,
    )
    (simp append_assoc)
