-- What stands at members: texts that are needed, texts that may be missing, licenses.
use Rattle.std.specs.Prelude.{ℕ, List, Option, Some, None, Result, Ok, Err}
use Rattle.serde_json.specs.Data.{Data, null, string}
use Rattle.package_items.specs.Rows.{Fault, not_text, LicenseRow, unstated}
use Rattle.package_items.specs.Texts.{license_in}
use Rattle.package_items.specs.Values.{found_of}

-- go on with the value, or stop at the fault
abbrev pub on_ok : {A B E : Type 0} → Result A E → (A → Result B E) → Result B E
on_ok (Err e) go = Err e
on_ok (Ok x) go = go x

-- the text that stands there
abbrev pub text_of : List ℕ → Option Data → Result (List ℕ) Fault
text_of at (Some (string s)) = Ok s
text_of at found = Err (not_text at (found_of found))

-- the text that stands there; null is as nothing
abbrev pub text_if_any : List ℕ → Option Data → Result (Option (List ℕ)) Fault
text_if_any at None = Ok None
text_if_any at (Some null) = Ok None
text_if_any at (Some (string s)) = Ok (Some s)
text_if_any at found = Err (not_text at (found_of found))

-- a license that is missing is unstated
abbrev pub license_if_any : Option (List ℕ) → LicenseRow
license_if_any None = unstated
license_if_any (Some text) = license_in text

-- the license that stands there
abbrev pub license_at : List ℕ → Option Data → Result LicenseRow Fault
license_at at found = on_ok (text_if_any at found) (λ text. Ok (license_if_any text))
