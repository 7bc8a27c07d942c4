use Rattle.std.proofs.Common.{append_assoc}
use Rattle.gate_forms.proofs.page.pieces.put_node_beginning.Goals as goal

pub returns : goal.returns
returns c =
    rw (c.in_ok-put_depth_part.ensures, c.in_ok-put_sign_part.ensures, c.is_accepted.ensures, c.in_ok-put_decimal.ensures, c.min.ensures, c.in_ok-extend_from_slice.ensures.items)
    (simp append_assoc)
