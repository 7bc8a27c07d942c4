use Rattle.std.proofs.Common.{◌≡◌, ℕ, List, take, string_bytes, bytes_eq}
use Rattle.spdx_policy.specs.declared.scopes.Scope.{Scope}
use Rattle.spdx_policy.specs.Scopes.{places}
use Rattle.spdx_policy.specs.Shown.{tables_at}
use Rattle.spdx_policy.proofs.scopes.index_of.Given as goal

abbrev pub invariant-loop-table : goal.invariant-loop-table
invariant-loop-table l = (q : List ℕ) → tables_at l.index q ≡ places (λ (s : Scope). bytes_eq q (string_bytes s.name)) (take l.table l.scopes)
