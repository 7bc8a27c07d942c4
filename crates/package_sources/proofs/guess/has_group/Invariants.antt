use Rattle.std.proofs.Common.{◌≡◌}
use Rattle.serde_json.specs.View.{members_view}
use Rattle.package_sources.specs.Guess.{some_member, is_group}
use Rattle.package_sources.proofs.guess.has_group.Given as goal

abbrev pub invariant-loop-key : goal.invariant-loop-key
invariant-loop-key l = some_member is_group (members_view l.fn.members.entries) ≡ some_member is_group (members_view l.key-iterator)
