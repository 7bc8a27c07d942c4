-- What a draft shows, and what always holds of it.
use Rattle.std.specs.Prelude.{◌≡◌, ℕ, ◌-◌, ◌≤◌, false, List, length, take, drop, Option, Some, None, option_map, nat_eq, string_bytes}
use Rattle.std.specs.List.{starts_with}
use Rattle.std.specs.Option.{ForSome}
use Rattle.spdx_canonical.specs.declared.draft.Draft.TheInside.{Inside}
use Rattle.spdx_canonical.specs.Draft.{Drafted}

-- the front of the text, up to its rest, or what was written instead
abbrev pub bytes_of : List ℕ → List ℕ → Option (List ℕ) → List ℕ
bytes_of text rest None = take (length text - length rest) text
bytes_of text rest (Some written) = written

abbrev pub draft_shown : Inside → Drafted
draft_shown d =
    record {
      text = d.text.now;
      bytes = bytes_of d.text.now d.rest.now (option_map string_bytes d.written);
    }

-- the rest is the end of the text, and what was written instead is no front of it
abbrev pub IsDraft : Inside → Type 0
IsDraft d =
    (length d.rest.now ≤ length d.text.now) ×
    (d.rest.now ≡ drop (length d.text.now - length d.rest.now) d.text.now)
    × ForSome (option_map string_bytes d.written)
    (λ written. starts_with nat_eq d.text.now written ≡ false)
