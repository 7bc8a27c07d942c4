use Rattle.std.proofs.Common.{ap, ◌∙◌, ◌++◌, ℕ, List, string_bytes}
use Rattle.gate_told.proofs.Appended.{three}
use Rattle.gate_told.proofs.unread.put_unlisted.Goals as goal

pub returns : goal.returns
returns c =
    three _ _ _ _ _ _ _ c.in_ok-push_str.ensures.bytes
    (c.in_ok-push_str-2.ensures.bytes ∙ ap (λ (v : List ℕ). string_bytes c.push_str.new.self ++ v) c.license_version.ensures)
    c.in_ok-push_str-3.ensures.bytes
