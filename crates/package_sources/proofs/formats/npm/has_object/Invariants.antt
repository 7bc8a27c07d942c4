use Rattle.std.proofs.Common.{◌≡◌}
use Rattle.serde_json.specs.View.{members_view}
use Rattle.package_sources.specs.Npm.{has_object}
use Rattle.package_sources.proofs.formats.npm.has_object.Given as goal

abbrev pub invariant-loop-entry : goal.invariant-loop-entry
invariant-loop-entry l = has_object (members_view l.fn.members.entries) ≡ has_object (members_view l.entry-iterator)
