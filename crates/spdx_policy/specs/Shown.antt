-- What tables and entries show, as bytes, numbers and rows.
use Rattle.std.specs.Prelude.{◌≡◌, ℕ, Bool, List, [], option_map, map, String, Vec, string_bytes, bytes_eq, ◌∷◌, ◌++◌, if◌then◌else◌}
use Rattle.std.specs.Option.{option_map_or}
use Rattle.std.specs.declared.alloc.Global.{Global}
use Rattle.std.specs.BTreeMap.{BTreeMap, get_by_text}
use Rattle.semver.specs.declared.VersionReq.{VersionReq}
use Rattle.semver.specs.Identifiers.{comparator_view}
use Rattle.semver.specs.Parse.{Held}
use Rattle.spdx_policy.specs.declared.scopes.Scope.{Scope}
use Rattle.spdx_policy.specs.Scopes.{ScopeRow, places}

-- the comparators of a range
abbrev pub range_of : VersionReq → List Held
range_of r = map comparator_view r.comparators.items

abbrev pub scope_row : Scope → ScopeRow
scope_row s = record { name = string_bytes s.name; versions = option_map range_of s.versions }

-- the tables that stand under a package's name
abbrev pub tables_at : BTreeMap (String Global) (Vec ℕ Global) → List ℕ → List ℕ
tables_at index name = option_map_or (λ (v : Vec ℕ Global). v.items) (get_by_text index name) []

-- the packages that the table is for, by name
abbrev pub is_named : List ℕ → ScopeRow → Bool
is_named name s = bytes_eq name s.name

-- under each name stand the tables of just that name, ascending
abbrev pub Indexes : BTreeMap (String Global) (Vec ℕ Global) → List ScopeRow → Type 0
Indexes index rows = (name : List ℕ) → tables_at index name ≡ places (is_named name) rows

-- the table stands last under that name, and the other names have what they had
abbrev pub Adds : BTreeMap (String Global) (Vec ℕ Global) → List ℕ → ℕ →
    BTreeMap (String Global) (Vec ℕ Global) → Type 0
Adds old name table new =
    (q : List ℕ) → tables_at new
    q ≡ (if bytes_eq q name then tables_at old q ++ table ∷ [] else tables_at old q)
