-- Bytes that are no text.
use Rattle.std.proofs.Common.{◌≡◌, ℕ, Bool, true, false, List, refl}
use Rattle.std.specs.Str.{IsUtf8, is_utf8}
use Rattle.std.proofs.lemmas.Str.{IsUtf8-from_is_utf8}

pub no_text : (bytes : List ℕ) → (IsUtf8 bytes → ⊥) → is_utf8 bytes ≡ false
no_text bytes none = by (is_utf8 bytes) (IsUtf8-from_is_utf8 bytes)
  where
    by : (b : Bool) → (b ≡ true → IsUtf8 bytes) → b ≡ false
    by true text = absurd (none (text refl))
    by false text = refl
