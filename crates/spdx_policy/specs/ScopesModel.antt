-- What the packages of tables show, and what always holds of them.
use Rattle.std.specs.Prelude.{List, map}
use Rattle.spdx_policy.specs.declared.scopes.Scopes.TheInside.{Inside}
use Rattle.spdx_policy.specs.Scopes.{ScopeRow}
use Rattle.spdx_policy.specs.Shown.{scope_row, Indexes}

-- they show each table's package and range
abbrev pub scopes_shown : Inside → List ScopeRow
scopes_shown a = map scope_row a.scopes.items

-- the index is that of the tables
abbrev pub IsIndexed : Inside → Type 0
IsIndexed a = Indexes a.by_package (map scope_row a.scopes.items)
