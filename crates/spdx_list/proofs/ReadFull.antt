-- Full names that are taken are read as their licences, and hide no imprecise name.
use Rattle.std.proofs.Common.{◌≡◌, ℕ, suc, Bool, true, false, List, [], ◌∷◌, ◌++◌, map, filter, get_or, refl, sym, ◌∙◌, ap, arith, All, Contains, Some, option_map}
use Rattle.std.specs.Prelude.{not, ◌&&◌}
use Rattle.std.specs.List.{list_any}
use Rattle.std.proofs.Math.Seq.{take-length}
use Rattle.std.proofs.lemmas.List.Folds.{list_any_at}
use Rattle.std.proofs.lemmas.List.Elements.{All-map, All-contains, filter_passes}
use Rattle.std.proofs.lemmas.Map.Made.{Contains-tail}
use Rattle.std.proofs.lemmas.Slice.Eq.{bytes_eq-Decides}
use Rattle.std.specs.Str.{str_to_ascii_lowercase, bytes_eq}
use Rattle.spdx_requirement.specs.Rows.{LicenseRow, ExceptionRow, ImpreciseRow}
use Rattle.spdx_requirement.specs.Flags.{is_deprecated}
use Rattle.spdx_catalogue.specs.Names.{begins_caseless}
use Rattle.spdx_list.specs.FullNames.{begins_unlisted, fits_other, fits_row, is_taken, full_row, full_names, with_full_names, first_fit, ReadsFullNames}

-- ---- tests
pub left : (a b : Bool) → (a && b) ≡ true → a ≡ true
left true b e = refl
left false b e = absurd cc

pub right : (a b : Bool) → (a && b) ≡ true → b ≡ true
right true b e = e
right false b e = absurd cc

pub isnt : (a : Bool) → not a ≡ true → a ≡ false
isnt true e = absurd cc
isnt false e = refl

pub never : {A : Type 0} → true ≡ false → A
never e = absurd cc

-- a test that no element passes
pub none_passes : {X : Type 0} (p : X → Bool) (xs : List X) → list_any p xs ≡ false → All (λ x. p x ≡ false) xs
none_passes p xs none k d lt = by (p (get_or xs k d)) refl
  where
    by : (b : Bool) → p (get_or xs k d) ≡ b → p (get_or xs k d) ≡ false
    by true e = absurd (let some = list_any_at p xs k d lt e in cc)
    by false e = e

-- ---- texts
pub begins_itself : (text : List ℕ) → begins_caseless text text ≡ true
begins_itself text =
    ap (λ (t : List ℕ). bytes_eq (str_to_ascii_lowercase text) (str_to_ascii_lowercase t)) (take-length text)
    ∙ (bytes_eq-Decides (str_to_ascii_lowercase text) (str_to_ascii_lowercase text)).1 refl

-- rows that don't fit are passed over
pub passed : (fs rest : List ImpreciseRow) (text : List ℕ) → All (λ (f : ImpreciseRow). begins_caseless f.prefix text ≡ false) fs → first_fit (fs ++ rest) text ≡ first_fit rest text
passed [] rest text none = refl
passed (f ∷ fs) rest text none =
    let here : begins_caseless f.prefix text ≡ false = none 0 f (omega arith) in
    rw here (passed fs rest text (λ k d lt. none (suc k) d (omega arith)))

module _ (licenses : List LicenseRow) (exceptions : List ExceptionRow) (rows : List ImpreciseRow) where
  fits_none : (r : LicenseRow) → is_taken licenses exceptions rows r ≡ true → list_any (fits_other r) licenses ≡ false
  fits_none r t = isnt _ (left _ _ (right (begins_unlisted licenses exceptions r.full_name) _ (right (not (is_deprecated r.flags)) _ t)))

  hides_none : (r : LicenseRow) → is_taken licenses exceptions rows r ≡ true → fits_row rows r.full_name ≡ false
  hides_none r t = isnt _ (right (not (list_any (fits_other r) licenses)) _ (right (begins_unlisted licenses exceptions r.full_name) _ (right (not (is_deprecated r.flags)) _ t)))

  -- a licence whose full name begins this one's is this one by name
  one_name : (x r : LicenseRow) → Contains licenses r → is_taken licenses exceptions rows r ≡ true → is_taken licenses exceptions rows x ≡ true → begins_caseless x.full_name r.full_name ≡ true → x.name ≡ r.name
  one_name x r has taken t begins = by (bytes_eq r.name x.name) refl
    where
      other : fits_other x r ≡ false
      other = All-contains (λ o. fits_other x o ≡ false) licenses r (none_passes (fits_other x) licenses (fits_none x t)) has

      fresh : is_deprecated r.flags ≡ false
      fresh = isnt _ (left (not (is_deprecated r.flags)) _ taken)

      by : (b : Bool) → bytes_eq r.name x.name ≡ b → x.name ≡ r.name
      by true e = sym ((bytes_eq-Decides r.name x.name).0 e)
      by false e =
          let all : fits_other x r ≡ true = rw (fresh, e, begins) refl in
          never (sym all ∙ other)

  -- the first full name that begins that of a licence means the licence
  abbrev IsFound : List LicenseRow → LicenseRow → Type 0
  IsFound xs r = option_map (λ (m : ImpreciseRow). m.name) (first_fit (map full_row (filter (is_taken licenses exceptions rows) xs) ++ rows) r.full_name) ≡ Some r.name

  step : (x : LicenseRow) (xs : List LicenseRow) (r : LicenseRow) → ((x ≡ r → ⊥) → IsFound xs r) → is_taken licenses exceptions rows r ≡ true
      → ((x : LicenseRow) → is_taken licenses exceptions rows x ≡ true → begins_caseless x.full_name r.full_name ≡ true → x.name ≡ r.name)
      → (t : Bool) → is_taken licenses exceptions rows x ≡ t → (b : Bool) → begins_caseless x.full_name r.full_name ≡ b → IsFound (x ∷ xs) r
  step x xs r rest taken one true t true b = rw (t, b) (ap Some (one x t b))
  step x xs r rest taken one true t false b =
      let differ : x ≡ r → ⊥ = λ e. never (sym (begins_itself r.full_name) ∙ sym (ap (λ (y : LicenseRow). begins_caseless y.full_name r.full_name) e) ∙ b) in
      rw (t, b) (rest differ)
  step x xs r rest taken one false t b _ =
      let differ : x ≡ r → ⊥ = λ e. never (sym taken ∙ sym (ap (is_taken licenses exceptions rows) e) ∙ t) in
      rw t (rest differ)

  found : (xs : List LicenseRow) (r : LicenseRow) → Contains xs r → is_taken licenses exceptions rows r ≡ true
      → ((x : LicenseRow) → is_taken licenses exceptions rows x ≡ true → begins_caseless x.full_name r.full_name ≡ true → x.name ≡ r.name) → IsFound xs r
  found [] r has taken one = absurd (omega (arith, has.1))
  found (x ∷ xs) r has taken one =
      step x xs r (λ differ. found xs r (Contains-tail x xs r differ has) taken one) taken one (is_taken licenses exceptions rows x) refl (begins_caseless x.full_name r.full_name) refl

  -- no full name that is taken begins one of the imprecise names
  hidden_none : (m : ImpreciseRow) → Contains rows m → All (λ (f : ImpreciseRow). begins_caseless f.prefix m.prefix ≡ false) (full_names licenses exceptions rows)
  hidden_none m has =
      All-map (λ (f : ImpreciseRow). begins_caseless f.prefix m.prefix ≡ false) full_row (filter (is_taken licenses exceptions rows) licenses)
      (λ k d lt.
      let r = get_or (filter (is_taken licenses exceptions rows) licenses) k d in
      let t = filter_passes (is_taken licenses exceptions rows) licenses k d lt in
      All-contains (λ (o : ImpreciseRow). begins_caseless r.full_name o.prefix ≡ false) rows m (none_passes (λ (o : ImpreciseRow). begins_caseless r.full_name o.prefix) rows (hides_none r t)) has)

  pub reads_full : ReadsFullNames licenses exceptions rows (with_full_names licenses exceptions rows)
  reads_full = record {
    full = λ r has taken. found licenses r has taken (λ x t begins. one_name x r has taken t begins);
    kept = λ m has. passed (full_names licenses exceptions rows) rows m.prefix (hidden_none m has);
  }
