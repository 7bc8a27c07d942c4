use Rattle.std.proofs.Common.{◌≡◌, ◌+◌, ◌≤◌, length, drop}
use Rattle.std.specs.List.{prefix_len}
use Rattle.notice_forms.specs.Markdown.{is_backquote, longest_run}
use Rattle.notice_forms.proofs.markdown.longest_run.Given as goal

abbrev pub invariant-loop-at : goal.invariant-loop-at
invariant-loop-at l =
    (l.at ≤ length l.bytes) × (l.run ≡ prefix_len is_backquote (drop l.at l.bytes)) × (l.longest ≡ longest_run (drop l.at l.bytes)) × (l.run + l.at ≤ length l.bytes) × (l.longest ≤ length l.bytes)

abbrev pub decreases-loop-at : goal.decreases-loop-at
decreases-loop-at l = l.at
