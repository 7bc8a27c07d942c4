use Rattle.std.proofs.Common.{append_assoc}
use Rattle.finding_forms.proofs.sarif_form.put_region.Goals as goal

pub returns-clause-tokens : goal.returns-clause-tokens
returns-clause-tokens c =
    rw (
      c.in_ok-end_object.ensures.ok,
      c.in_ok-put_text_object.ensures.tokens,
      c.in_ok-key.ensures.ok,
      c.in_ok-put_region_members.ensures.tokens,
      c.in_ok-begin_object.ensures.ok,
    )
    (simp append_assoc)
