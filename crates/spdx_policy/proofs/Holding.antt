-- The tables under a package's name, cut to those that hold.
use Rattle.std.proofs.Common.{◌≡◌, ℕ, List, [], Option, Some, None, filter, String, Vec, Global, ap, ◌∙◌}
use Rattle.std.specs.BTreeMap.{BTreeMap, get_by_text}
use Rattle.std.specs.Option.{option_map_or}
use Rattle.semver.specs.Parse.{Parts}
use Rattle.spdx_policy.specs.Scopes.{ScopeRow, version_in, is_meant, is_meant_at, holds, places}
use Rattle.spdx_policy.specs.Shown.{Indexes, tables_at, is_named}
use Rattle.spdx_policy.proofs.Placed.{places_both}

-- of what stands under the name, those whose range means the version are those that hold
pub held : (index : BTreeMap (String Global) (Vec ℕ Global)) (rows : List ScopeRow) (name : List ℕ) (version : Option (List ℕ)) → Indexes index rows
    → filter (is_meant_at rows (version_in version)) (tables_at index name) ≡ places (holds name version) rows
held index rows name version at =
    ap (filter (is_meant_at rows (version_in version))) (at name) ∙ places_both (is_named name) (λ (s : ScopeRow). is_meant (version_in version) s.versions) rows

-- where nothing stands under the name, nothing holds
pub held_nowhere : (index : BTreeMap (String Global) (Vec ℕ Global)) (rows : List ScopeRow) (name : List ℕ) (version : Option (List ℕ)) → Indexes index rows
    → None ≡ get_by_text index name → [] ≡ places (holds name version) rows
held_nowhere index rows name version at none =
    ap (λ (o : Option (Vec ℕ Global)). filter (is_meant_at rows (version_in version)) (option_map_or (λ (v : Vec ℕ Global). v.items) o [])) none ∙ held index rows name version at

-- where tables stand there, those of them that are meant hold
pub held_among : (index : BTreeMap (String Global) (Vec ℕ Global)) (rows : List ScopeRow) (name : List ℕ) (version : Option (List ℕ)) (tables : Vec ℕ Global) (parts : Option Parts) → Indexes index rows
    → Some tables ≡ get_by_text index name → parts ≡ version_in version → filter (is_meant_at rows parts) tables.items ≡ places (holds name version) rows
held_among index rows name version tables parts at some read =
    ap (λ (p : Option Parts). filter (is_meant_at rows p) tables.items) read
    ∙ ap (λ (o : Option (Vec ℕ Global)). filter (is_meant_at rows (version_in version)) (option_map_or (λ (v : Vec ℕ Global). v.items) o [])) some
    ∙ held index rows name version at
