-- A text with no `{` has no short forms.
use Rattle.std.proofs.Common.{◌≡◌, ℕ, List, ◌==◌, ap, ◌∙◌}
use Rattle.std.proofs.lemmas.List.{append-nil}
use Rattle.std.proofs.lemmas.List.Splits.{slice_split_none}
use Rattle.test_rows.specs.Short.{IsPlain, parts_out, written_out}

pub plain_stays : (text : List ℕ) → IsPlain text → written_out text ≡ text
plain_stays text plain =
    ap parts_out (slice_split_none (λ b. b == 123) text plain) ∙ append-nil text
