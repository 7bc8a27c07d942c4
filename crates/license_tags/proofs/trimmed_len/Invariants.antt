use Rattle.std.proofs.Common.{◌≡◌, ◌+◌, ◌≤◌, length, take}
use Rattle.std.specs.List.{suffix_len}
use Rattle.std.specs.Char.{is_ascii_whitespace}
use Rattle.license_tags.proofs.trimmed_len.Given as goal

abbrev pub invariant-loop-end : goal.invariant-loop-end
invariant-loop-end l =
    (l.end ≤ length l.bytes)
    × (l.end + suffix_len is_ascii_whitespace l.bytes ≡ length l.bytes + suffix_len is_ascii_whitespace (take l.end l.bytes))

abbrev pub decreases-loop-end : goal.decreases-loop-end
decreases-loop-end l = l.end
