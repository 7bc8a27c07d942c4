use Rattle.std.proofs.Common.{◌≡◌, map, filter, take, option_map}
use Rattle.semver.specs.Identifiers.{parts_of}
use Rattle.spdx_policy.specs.Scopes as spec
use Rattle.spdx_policy.specs.Shown.{scope_row}
use Rattle.spdx_policy.proofs.scopes.meant.Given as goal

abbrev pub invariant-loop-table : goal.invariant-loop-table
invariant-loop-table l = l.meant.items ≡ filter (spec.is_meant_at (map scope_row l.scopes) (option_map parts_of l.version)) (take l.table-index l.tables)
