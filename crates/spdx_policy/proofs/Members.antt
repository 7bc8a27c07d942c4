-- The keys of a table.
use Rattle.std.proofs.Common.{◌≡◌, Bool, true, false, not, cond, List, [], ◌∷◌, Some, option_map, find, String, Global, string_bytes, refl}
use Rattle.std.specs.Map.{keys_of}
use Rattle.toml.specs.declared.value.Value.{Value}
use Rattle.toml.specs.View.{members_view}
use Rattle.spdx_policy.specs.declared.error.Key.{Key}
use Rattle.spdx_policy.specs.Shape.{is_known, first_unknown}

-- the first unknown key among those of the entries
pub first_unknown-keys : (known : List Key) (es : List (String Global × Value))
    → option_map string_bytes (find (λ (k : String Global). not (is_known known (string_bytes k))) (keys_of es)) ≡ first_unknown known (members_view es)
first_unknown-keys known [] = refl
first_unknown-keys known (e ∷ es) = by (is_known known (string_bytes e.0)) (first_unknown-keys known es)
  where
    by : (b : Bool) → option_map string_bytes (find (λ (k : String Global). not (is_known known (string_bytes k))) (keys_of es)) ≡ first_unknown known (members_view es)
        → option_map string_bytes (cond (not b) (Some e.0) (find (λ (k : String Global). not (is_known known (string_bytes k))) (keys_of es))) ≡ cond b (first_unknown known (members_view es)) (Some (string_bytes e.0))
    by true e = e
    by false e = refl
