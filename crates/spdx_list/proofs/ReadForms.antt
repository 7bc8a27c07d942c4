-- Forms that are taken are read as their licences, and change no reading.
use Rattle.std.proofs.Common.{◌≡◌, ℕ, suc, Result, Ok, Err, Bool, true, false, cond, List, [], ◌∷◌, ◌++◌, map, filter, get_or, refl, sym, ◌∙◌, ap, subst, arith, append_assoc, All, Contains, Option, None, Some, option_map}
use Rattle.std.specs.Prelude.{not, ◌&&◌}
use Rattle.std.specs.List.{list_any}
use Rattle.std.proofs.lemmas.List.Elements.{All-nil, All-cons, All-contains, All-filter, All-contains_itself, filter_passes}
use Rattle.std.proofs.lemmas.Map.Made.{Contains-tail}
use Rattle.std.proofs.lemmas.Slice.Eq.{bytes_eq-Decides}
use Rattle.std.specs.Str.{bytes_eq}
use Rattle.spdx_requirement.specs.Rows.{Rows, LicenseRow, ExceptionRow, ImpreciseRow}
use Rattle.spdx_catalogue.specs.Names.{begins_caseless}
use Rattle.spdx_list.specs.declared.error.ListFault.{ListFault}
use Rattle.spdx_list.specs.Items.{on_ok}
use Rattle.spdx_list.specs.Files.{ExtraRows, StatedRows, stated_in, exceptions_in, license_of, is_listed, gathered}
use Rattle.spdx_list.specs.Made.{Makes}
use Rattle.spdx_list.specs.FullNames.{begins_unlisted, fits_row, full_names, with_full_names, first_fit, ReadsFullNames}
use Rattle.spdx_list.specs.Forms.{all_forms, fits_full, fits_form, is_begun, is_alone, is_new, new_forms, with_forms, ReadsForms}
use Rattle.spdx_list.proofs.ReadFull.{left, right, isnt, never, none_passes, begins_itself, passed, reads_full}

-- ---- readings

-- a text that rows fit is read alike with more rows behind them
fit_stays : (xs ys : List ImpreciseRow) (text : List ℕ) (m : ImpreciseRow) → first_fit xs text ≡ Some m → first_fit (xs ++ ys) text ≡ Some m
fit_stays [] ys text m e = absurd cc
fit_stays (x ∷ xs) ys text m e = stays (begins_caseless x.prefix text) (first_fit xs text) (first_fit (xs ++ ys) text) (fit_stays xs ys text m) e
  where
    stays : (b : Bool) (o p : Option ImpreciseRow) → (o ≡ Some m → p ≡ Some m) → cond b (Some x) o ≡ Some m → cond b (Some x) p ≡ Some m
    stays true o p h e = e
    stays false o p h e = h e

-- the row doesn't begin the text
abbrev Passes : List ℕ → ImpreciseRow → Type 0
Passes text m = begins_caseless m.prefix text ≡ false

one_passes : (text : List ℕ) (x : ImpreciseRow) (xs : List ImpreciseRow) (b : Bool) → begins_caseless x.prefix text ≡ b → (first_fit xs text ≡ None → All (Passes text) xs) → cond b (Some x) (first_fit xs text) ≡ None
    → All (Passes text) (x ∷ xs)
one_passes text x xs true b rest e = absurd cc
one_passes text x xs false b rest e = All-cons (Passes text) x xs b (rest e)

-- where nothing fits, no row begins the text
none_fits : (xs : List ImpreciseRow) (text : List ℕ) → first_fit xs text ≡ None → All (Passes text) xs
none_fits [] text e = All-nil (Passes text)
none_fits (x ∷ xs) text e = one_passes text x xs (begins_caseless x.prefix text) refl (λ others. none_fits xs text others) e

-- the first of the rows that begins the prefix means the same
abbrev IsRead : List ImpreciseRow → ImpreciseRow → Type 0
IsRead xs f = option_map (λ (m : ImpreciseRow). m.name) (first_fit xs f.prefix) ≡ Some f.name

step : (f x : ImpreciseRow) (xs : List ImpreciseRow) → (begins_caseless x.prefix f.prefix ≡ true → x.name ≡ f.name) → ((x ≡ f → ⊥) → IsRead xs f)
    → (b : Bool) → begins_caseless x.prefix f.prefix ≡ b → IsRead (x ∷ xs) f
step f x xs one rest true b = rw b (ap Some (one b))
step f x xs one rest false b =
    let differ : x ≡ f → ⊥ = λ e. never (sym (begins_itself f.prefix) ∙ sym (ap (λ (y : ImpreciseRow). begins_caseless y.prefix f.prefix) e) ∙ b) in
    rw b (rest differ)

-- the first row that begins the prefix of one of them means what that one means, if each that does means it
found : (f : ImpreciseRow) (xs : List ImpreciseRow) → All (λ (x : ImpreciseRow). begins_caseless x.prefix f.prefix ≡ true → x.name ≡ f.name) xs → Contains xs f
    → IsRead xs f
found f [] one has = absurd (omega (arith, has.1))
found f (x ∷ xs) one has =
    step f x xs (one 0 x (omega arith)) (λ differ. found f xs (λ k d lt. one (suc k) d (omega arith)) (Contains-tail x xs f differ has)) (begins_caseless x.prefix f.prefix) refl

module _ (licenses : List LicenseRow) (exceptions : List ExceptionRow) (rows : List ImpreciseRow) where
  abbrev full : List ImpreciseRow
  full = full_names licenses exceptions rows

  abbrev forms : List ImpreciseRow
  forms = all_forms licenses

  abbrev new : List ImpreciseRow
  new = new_forms licenses exceptions rows

  alone : (f : ImpreciseRow) → is_new licenses exceptions rows f ≡ true → list_any (fits_form f) forms ≡ false
  alone f t =
      isnt _ (right (not (list_any (fits_full f) licenses)) _ (left (is_alone licenses forms f) _ (right (begins_unlisted licenses exceptions f.prefix) _ t)))

  apart : (f : ImpreciseRow) → is_new licenses exceptions rows f ≡ true → (not (is_begun full f.prefix) && not (is_begun rows f.prefix)) ≡ true
  apart f t = right (not (fits_row rows f.prefix)) _ (right (is_alone licenses forms f) _ (right (begins_unlisted licenses exceptions f.prefix) _ t))

  -- nothing in front of the forms begins one that is taken
  behind : (f : ImpreciseRow) → is_new licenses exceptions rows f ≡ true → first_fit (with_forms licenses exceptions rows) f.prefix ≡ first_fit new f.prefix
  behind f t =
      ap (λ (xs : List ImpreciseRow). first_fit xs f.prefix) (append_assoc full rows new)
      ∙ passed full (rows ++ new) f.prefix (none_passes (λ (m : ImpreciseRow). begins_caseless m.prefix f.prefix) full (isnt _ (left _ _ (apart f t))))
      ∙ passed rows new f.prefix (none_passes (λ (m : ImpreciseRow). begins_caseless m.prefix f.prefix) rows (isnt _ (right (not (is_begun full f.prefix)) _ (apart f t))))

  -- a form that is taken and begins another means the same licence
  one_name : (x f : ImpreciseRow) → is_new licenses exceptions rows x ≡ true → Contains forms f → begins_caseless x.prefix f.prefix ≡ true → x.name ≡ f.name
  one_name x f t has begins = by (bytes_eq f.name x.name) refl
    where
      other : fits_form x f ≡ false
      other = All-contains (λ (o : ImpreciseRow). fits_form x o ≡ false) forms f (none_passes (fits_form x) forms (alone x t)) has

      by : (b : Bool) → bytes_eq f.name x.name ≡ b → x.name ≡ f.name
      by true e = sym ((bytes_eq-Decides f.name x.name).0 e)
      by false e =
          let all : fits_form x f ≡ true = rw (e, begins) refl in
          never (sym all ∙ other)

  taken : All (λ (f : ImpreciseRow). is_new licenses exceptions rows f ≡ true) new
  taken = filter_passes (is_new licenses exceptions rows) forms

  among : All (Contains forms) new
  among = All-filter (is_new licenses exceptions rows) (Contains forms) forms (All-contains_itself forms)

  form_read : (f : ImpreciseRow) → Contains new f → option_map (λ (m : ImpreciseRow). m.name) (first_fit (with_forms licenses exceptions rows) f.prefix) ≡ Some f.name
  form_read f has =
      let t = All-contains (λ (x : ImpreciseRow). is_new licenses exceptions rows x ≡ true) new f taken has in
      let held = All-contains (Contains forms) new f among has in
      ap (option_map (λ (m : ImpreciseRow). m.name)) (behind f t) ∙ found f new (λ k d lt begins. one_name (get_or new k d) f (taken k d lt) held begins) has

  pub reads_forms : ReadsForms licenses exceptions rows (with_forms licenses exceptions rows)
  reads_forms = record {
    form = form_read;
    kept = λ text m e. fit_stays (with_full_names licenses exceptions rows) new text m e;
  }

  -- ---- and the names in front are read as before
  name_stays : (text name : List ℕ) (o : Option ImpreciseRow) → first_fit (with_full_names licenses exceptions rows) text ≡ o → option_map (λ (m : ImpreciseRow). m.name) o ≡ Some name
      → option_map (λ (m : ImpreciseRow). m.name) (first_fit (with_forms licenses exceptions rows) text) ≡ Some name
  name_stays text name None e h = absurd cc
  name_stays text name (Some m) e h = ap (option_map (λ (m : ImpreciseRow). m.name)) (fit_stays (with_full_names licenses exceptions rows) new text m e) ∙ h

  row_stays : (m : ImpreciseRow) → Contains rows m → (o : Option ImpreciseRow) → first_fit rows m.prefix ≡ o → first_fit (with_full_names licenses exceptions rows) m.prefix ≡ first_fit rows m.prefix
      → first_fit (with_forms licenses exceptions rows) m.prefix ≡ first_fit rows m.prefix
  row_stays m has None e kept =
      let isnt_begun = All-contains (Passes m.prefix) rows m (none_fits rows m.prefix e) has in
      never (sym (begins_itself m.prefix) ∙ isnt_begun)
  row_stays m has (Some x) e kept = fit_stays (with_full_names licenses exceptions rows) new m.prefix x (kept ∙ e) ∙ sym e

  pub reads_full_names : ReadsFullNames licenses exceptions rows (with_forms licenses exceptions rows)
  reads_full_names =
      let before = reads_full licenses exceptions rows in
      record {
        full = λ r has t. name_stays r.full_name r.name (first_fit (with_full_names licenses exceptions rows) r.full_name) refl (before.full r has t);
        kept = λ m has. row_stays m has (first_fit rows m.prefix) refl (before.kept m has);
      }

-- ---- of files
abbrev imprecise_or : List ImpreciseRow → Result Rows ListFault → List ImpreciseRow
imprecise_or others (Ok c) = c.imprecise
imprecise_or others (Err f) = others

pub gathered_imprecise : (licenses exceptions : List ℕ) (x : ExtraRows) (c : Rows) → gathered licenses exceptions x ≡ Ok c → c.imprecise ≡ x.imprecise
unfolding gathered
gathered_imprecise licenses exceptions x c is = sym (by (stated_in licenses) (exceptions_in exceptions) ∙ ap (imprecise_or x.imprecise) is)
  where
    by : (s : Result StatedRows ListFault) (e : Result (List ExceptionRow) ListFault) → x.imprecise ≡ imprecise_or x.imprecise (on_ok s (λ stated. on_ok e (λ excepted. Ok (record { version = stated.version; licenses = map (license_of x.copyleft) (filter is_listed stated.entries); exceptions = excepted; imprecise = x.imprecise }))))
    by (Err f) e = refl
    by (Ok s) (Err f) = refl
    by (Ok s) (Ok e) = refl

-- the rows that files make read their full names, and the forms of these
pub made_reads : (licenses exceptions : List ℕ) (x : ExtraRows) (made : Rows) → Makes licenses exceptions x made → ReadsFullNames made.licenses made.exceptions x.imprecise made.imprecise
made_reads licenses exceptions x made makes =
    let same : makes.0.imprecise ≡ x.imprecise = gathered_imprecise licenses exceptions x makes.0 makes.1 in
    let all : made.imprecise ≡ with_forms made.licenses made.exceptions x.imprecise = makes.2.imprecise ∙ ap (with_forms made.licenses made.exceptions) same in
    subst (ReadsFullNames made.licenses made.exceptions x.imprecise) (sym all) (reads_full_names made.licenses made.exceptions x.imprecise)

pub made_reads_forms : (licenses exceptions : List ℕ) (x : ExtraRows) (made : Rows) → Makes licenses exceptions x made → ReadsForms made.licenses made.exceptions x.imprecise made.imprecise
made_reads_forms licenses exceptions x made makes =
    let same : makes.0.imprecise ≡ x.imprecise = gathered_imprecise licenses exceptions x makes.0 makes.1 in
    let all : made.imprecise ≡ with_forms made.licenses made.exceptions x.imprecise = makes.2.imprecise ∙ ap (with_forms made.licenses made.exceptions) same in
    subst (ReadsForms made.licenses made.exceptions x.imprecise) (sym all) (reads_forms made.licenses made.exceptions x.imprecise)
