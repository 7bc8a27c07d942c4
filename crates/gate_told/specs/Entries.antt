-- The entries of a policy, as they are told.
use Rattle.std.specs.Prelude.{ℕ, List, [], ◌++◌, codes, unwrap_or}
use Rattle.spdx_policy.specs.declared.decision.Entry.{Entry}
use Rattle.spdx_policy.specs.declared.decision.Entry.TheVariants as entry
use Rattle.spdx_policy.specs.Rules.{Rules, entry_text}
use Rattle.spdx_policy.specs.Scopes.{ScopeRow, package_at}

-- the package of a table
abbrev pub package_text : List ScopeRow → ℕ → List ℕ
package_text rows table = unwrap_or (package_at rows table) []

abbrev pub exception_text : Rules → ℕ → List ℕ
exception_text p table = codes "exception for " ++ package_text p.exempted table

-- the list that an entry stands in
abbrev pub list_text : Rules → Entry → List ℕ
list_text p (entry.Allow place) = codes "allow"
list_text p (entry.AllowIf place) = codes "allow-if"
list_text p (entry.Deny place) = codes "deny"
list_text p (entry.DenyIf place) = codes "deny-if"
list_text p (entry.Exception table place) = exception_text p table

-- an entry as its file has it, in quotes behind its list: deny "AGPL-3.0-only"
abbrev pub told_entry : Rules → Entry → List ℕ
told_entry p e = list_text p e ++ (codes " \"" ++ (unwrap_or (entry_text p e) [] ++ codes "\""))
