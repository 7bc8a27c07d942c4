use Rattle.std.proofs.Common.{rules, ◌≡◌, ℕ, Bool, true, false, cond, List, None, refl}
use Rattle.std.specs.Str.{IsUtf8, is_utf8}
use Rattle.std.proofs.lemmas.Str.{IsUtf8-from_is_utf8, is_utf8-from_IsUtf8}
use Rattle.serde_json.specs.Read.{read}
use Rattle.spdx_tables.specs.TableReading.{value_in}
use Rattle.spdx_tables.proofs.values.value_of.Goals as goal

no_value : (bytes : List ℕ) → (IsUtf8 bytes → read bytes ≡ None) → value_in bytes ≡ None
no_value bytes none = by (is_utf8 bytes) (IsUtf8-from_is_utf8 bytes)
  where
    by : (b : Bool) → (b ≡ true → IsUtf8 bytes) → cond b (read bytes) None ≡ None
    by true text = none (text refl)
    by false text = refl

pub returns-in-Ok-clause-ok : goal.returns-in-Ok-clause-ok
returns-in-Ok-clause-ok c = rw (is_utf8-from_IsUtf8 c.args.bytes.now c.in-Ok.ensures.ok.0) c.in-Ok.ensures.ok.1

pub returns-else-is_memory-clause-err : goal.returns-else-is_memory-clause-err
returns-else-is_memory-clause-err c =
    let none : IsUtf8 c.args.bytes.now → read c.args.bytes.now ≡ None = search rules in
    (refl, no_value c.args.bytes.now none)
