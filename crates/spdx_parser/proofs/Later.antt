-- The listed licence whose name has `-or-later` in place of `-only`.
use Rattle.std.proofs.Common.{◌≡◌, ℕ, ◌-◌, Bool, true, false, List, ◌++◌, length, take, Option, Some, None, Bor, refl, sym, ◌∙◌, ap, subst}
use Rattle.std.specs.Prelude.{unwrap_or, if◌then◌else◌, ◌||◌}
use Rattle.std.specs.Option.{MatchOption, option_map_or}
use Rattle.std.specs.Str.Pattern.{StripsSuffix, FindsTextSuffix}
use Rattle.std.proofs.lemmas.Bool.Decides.{Decides-eqb}
use Rattle.std.proofs.lemmas.Slice.Eq.{ends_is}
use Rattle.spdx_requirement.specs.Rows.{Rows, LicenseRow}
use Rattle.spdx_requirement.specs.Flags.{is_gnu}
use Rattle.spdx_requirement.specs.Endings.{only, or_later, ends_or_later, has_suffix, without, without_only, ending}
use Rattle.spdx_requirement.proofs.Suffixes.{ends_only}
use Rattle.spdx_catalogue.specs.Names.{has_two_suffixes, without_plus}
use Rattle.spdx_catalogue.specs.LookUps as LookUps
use Rattle.spdx_catalogue.specs.RowRules.{is_well_formed}
use Rattle.spdx_catalogue.proofs.Listed.{license_one_suffix}
use Rattle.spdx_parser.specs.Grammar.{later_row}
use Rattle.spdx_parser.specs.Code.{IsLicenseRow}

abbrev still_has_suffix : Option (List ℕ) → Bool
still_has_suffix front = option_map_or has_suffix front false

-- what is left of a name where `-only` is stripped, if it is there
pub strips : (name : List ℕ) (o : Option (Bor (List ℕ))) (whole : Bor (List ℕ)) → whole.now ≡ name → MatchOption o (FindsTextSuffix only name None) (λ (x : Bor (List ℕ)). StripsSuffix (FindsTextSuffix only) name x.now) → (unwrap_or o whole).now ≡ without_only name
strips name None whole is h = go (ends_only name) refl
  where
    go : (b : Bool) → ends_only name ≡ b → whole.now ≡ unwrap_or (if b then Some (take (length name - length only) name) else None) name
    go true e = absurd (h (take (length name - length only) name) ((ends_is Decides-eqb name only (ends_only name) refl).0 e))
    go false e = is
strips name (Some x) whole is (n, found, rest, len) =
    let ends : ends_only name ≡ true = (ends_is Decides-eqb name only (ends_only name) refl).1 (take (length name - n) name) found.1 in
    rest ∙ ap (λ (k : ℕ). take (length name - k) name) found.0 ∙ ap (λ (b : Bool). unwrap_or (if b then Some (take (length name - length only) name) else None) name) (sym ends)

-- a name with one ending at most, which is not `-or-later`, has none without its `-only`
bare : (name : List ℕ) → has_two_suffixes name ≡ false → ends_or_later name ≡ false → has_suffix (without_only name) ≡ false
bare name one bare_name = go (ends_only name) refl
  where
    either : (a b : Bool) → (a || b) ≡ false → a ≡ false
    either false b e = refl
    either true b e = absurd cc

    go : (b : Bool) → ends_only name ≡ b → has_suffix (unwrap_or (if b then Some (take (length name - length only) name) else None) name) ≡ false
    go true e = either (has_suffix (take (length name - length only) name)) (still_has_suffix (without or_later name)) (subst (λ (b : Bool). (still_has_suffix (if b then Some (take (length name - length only) name) else None) || still_has_suffix (without or_later name)) ≡ false) e one)
    go false e = subst (λ (b : Bool). (b || ends_or_later name) ≡ false) (sym e) bare_name

-- of a GNU licence of a catalogue the look-up by a bare name is that by the name with its ending
pub later_is : (c : Rows) (r : LicenseRow) (base : List ℕ) → is_well_formed c ≡ true → IsLicenseRow c r → is_gnu r.flags ≡ true → ends_or_later r.name ≡ false → base ≡ without_only r.name → LookUps.gnu_listed c.licenses base true ≡ later_row c r
later_is c r base well at gnu none is =
    let plain = bare r.name (license_one_suffix c well r at gnu) none in
    ap (λ (b : List ℕ). LookUps.gnu_listed c.licenses b true) is ∙ ap (λ (b : Bool). if b then LookUps.listed c.licenses (without_plus (without_only r.name)) else LookUps.listed c.licenses (without_only r.name ++ ending true)) plain
