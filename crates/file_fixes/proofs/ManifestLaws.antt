-- What is said of a manifest follows from what becomes of each of its expressions.
use Rattle.std.proofs.Common.{◌≡◌, inl, inr, ℕ, suc, ◌||◌, Bool, true, false, List, [], ◌∷◌, map, Option, Some, None, refl, sym, ◌∙◌, ap, subst, arith}
use Rattle.std.specs.Prelude.{All, Any}
use Rattle.std.specs.Global.{Vec}
use Rattle.std.specs.List.{list_any, AllZip}
use Rattle.std.proofs.lemmas.List.Elements.{All-nil, All-cons, All-head, All-tail}
use Rattle.spdx_requirement.specs.Rows.{Rows}
use Rattle.manifests.specs.declared.form.Form.{Form}
use Rattle.file_fixes.specs.declared.FixedManifest.{FixedManifest}
use Rattle.file_fixes.specs.ManifestFixing.{IsRead, IsRefused, Fate, readable, hopeless, stuck, replaced, HasFate, Change, old_text, text_after, new_text, is_fix_written, is_fate_left, is_replaced, is_left, sites_of, texts_of, IsTextAfter, IsMended, IsKept, IsGivenUp, IsFixed, FixLaws}

-- ---- some element of a list

here : {X : Type 0} (P : X → Type 0) (x : X) (xs : List X) → P x → Any P (x ∷ xs)
here P x xs h = (0, x, omega arith, refl, h)

there : {X : Type 0} (P : X → Type 0) (x : X) (xs : List X) → Any P xs → Any P (x ∷ xs)
there P x xs h = (suc h.0, h.1, omega (arith, h.2), h.3, h.4)

module _ (c : Rows) (form : Form) where
  abbrev pub Ends : Change → Type 0
  Ends change = HasFate c form (old_text change) change.fate

  -- ---- one expression

  after : (text : List ℕ) (fate : Fate) → HasFate c form text fate → IsTextAfter c form text (text_after text fate)
  after text readable h = inl refl
  after text hopeless h = inl refl
  after text (stuck fix) h = inl refl
  after text (replaced fix) h = inr h

  not_written : (text : List ℕ) (fate : Fate) → HasFate c form text fate → IsRead c form text → is_fix_written fate ≡ false
  not_written text readable h r = refl
  not_written text hopeless h r = refl
  not_written text (stuck fix) h r = refl
  not_written text (replaced fix) h r = absurd (h.refused r)

  not_left : (text : List ℕ) (fate : Fate) → HasFate c form text fate → IsRead c form text → is_fate_left fate ≡ false
  not_left text readable h r = refl
  not_left text hopeless h r = absurd (h.refused r)
  not_left text (stuck fix) h r = absurd (h.refused r)
  not_left text (replaced fix) h r = refl

  whole_after : (text : List ℕ) (fate : Fate) → HasFate c form text fate → is_fate_left fate ≡ false → IsRead c form (text_after text fate)
  whole_after text readable h e = h
  whole_after text hopeless h e = absurd cc
  whole_after text (stuck fix) h e = absurd cc
  whole_after text (replaced fix) h e = h.reads

  refused_after : (text : List ℕ) (fate : Fate) → HasFate c form text fate → is_fate_left fate ≡ true → IsRefused c form (text_after text fate)
  refused_after text readable h e = absurd cc
  refused_after text hopeless h e = h.refused
  refused_after text (stuck fix) h e = h.refused
  refused_after text (replaced fix) h e = absurd cc

  refused_before : (text : List ℕ) (fate : Fate) → HasFate c form text fate → is_fix_written fate ≡ true → IsRefused c form text
  refused_before text readable h e = absurd cc
  refused_before text hopeless h e = absurd cc
  refused_before text (stuck fix) h e = absurd cc
  refused_before text (replaced fix) h e = h.refused

  same_after : (text : List ℕ) (fate : Fate) → is_fix_written fate ≡ false → text_after text fate ≡ text
  same_after text readable e = refl
  same_after text hopeless e = refl
  same_after text (stuck fix) e = refl
  same_after text (replaced fix) e = absurd cc

  -- ---- all of them

  pub each_after : (changes : List Change) → All Ends changes → AllZip (IsTextAfter c form) (texts_of (sites_of changes)) (map new_text changes)
  each_after [] h = tt
  each_after (x ∷ xs) h = (after (old_text x) x.fate (All-head Ends x xs h), each_after xs (All-tail Ends x xs h))

  each_stays : (texts : List (List ℕ)) → AllZip (IsTextAfter c form) texts texts
  each_stays [] = tt
  each_stays (x ∷ xs) = (inl refl, each_stays xs)

  none_written : (changes : List Change) → All Ends changes → All (IsRead c form) (texts_of (sites_of changes)) → list_any is_replaced changes ≡ false
  none_written [] h r = refl
  none_written (x ∷ xs) h r =
      let first = not_written (old_text x) x.fate (All-head Ends x xs h) (All-head (IsRead c form) (old_text x) (texts_of (sites_of xs)) r) in
      let rest = none_written xs (All-tail Ends x xs h) (All-tail (IsRead c form) (old_text x) (texts_of (sites_of xs)) r) in
      grind (arith, first, rest)

  none_left : (changes : List Change) → All Ends changes → All (IsRead c form) (texts_of (sites_of changes)) → list_any is_left changes ≡ false
  none_left [] h r = refl
  none_left (x ∷ xs) h r =
      let first = not_left (old_text x) x.fate (All-head Ends x xs h) (All-head (IsRead c form) (old_text x) (texts_of (sites_of xs)) r) in
      let rest = none_left xs (All-tail Ends x xs h) (All-tail (IsRead c form) (old_text x) (texts_of (sites_of xs)) r) in
      grind (arith, first, rest)

  neither : (a b : Bool) → (a || b) ≡ false → (a ≡ false) × (b ≡ false)
  neither true b e = absurd cc
  neither false b e = (refl, e)

  all_read : (changes : List Change) → All Ends changes → list_any is_left changes ≡ false → All (IsRead c form) (map new_text changes)
  all_read [] h e = All-nil (IsRead c form)
  all_read (x ∷ xs) h e =
      let both = neither (is_left x) (list_any is_left xs) e in
      All-cons (IsRead c form) (new_text x) (map new_text xs) (whole_after (old_text x) x.fate (All-head Ends x xs h) both.0) (all_read xs (All-tail Ends x xs h) both.1)

  same_texts : (changes : List Change) → list_any is_replaced changes ≡ false → map new_text changes ≡ texts_of (sites_of changes)
  same_texts [] e = refl
  same_texts (x ∷ xs) e =
      let both = neither (is_replaced x) (list_any is_replaced xs) e in
      ap (λ (t : List ℕ). t ∷ map new_text xs) (same_after (old_text x) x.fate both.0) ∙ ap (λ (ts : List (List ℕ)). old_text x ∷ ts) (same_texts xs both.1)

  -- a refused one by a test that some change passes
  module _ (test : Change → Bool) (text : Change → List ℕ) (says : (x : Change) → Ends x → test x ≡ true → IsRefused c form (text x)) where
    either : (x : Change) (xs : List Change) (b : Bool) → test x ≡ b → Ends x → (b || list_any test xs) ≡ true → (list_any test xs ≡ true → Any (IsRefused c form) (map text xs)) → Any (IsRefused c form) (text x ∷ map text xs)
    either x xs true t h e more = here (IsRefused c form) (text x) (map text xs) (says x h t)
    either x xs false t h e more = there (IsRefused c form) (text x) (map text xs) (more e)

    some_refused : (changes : List Change) → All Ends changes → list_any test changes ≡ true → Any (IsRefused c form) (map text changes)
    some_refused [] h e = absurd cc
    some_refused (x ∷ xs) h e = either x xs (test x) refl (All-head Ends x xs h) e (some_refused xs (All-tail Ends x xs h))

  old_texts : (changes : List Change) → map old_text changes ≡ texts_of (sites_of changes)
  old_texts [] = refl
  old_texts (x ∷ xs) = ap (λ (ts : List (List ℕ)). old_text x ∷ ts) (old_texts xs)

  pub left_refused : (changes : List Change) → All Ends changes → list_any is_left changes ≡ true → Any (IsRefused c form) (map new_text changes)
  left_refused = some_refused is_left new_text (λ x h e. refused_after (old_text x) x.fate h e)

  pub written_refused : (changes : List Change) → All Ends changes → list_any is_replaced changes ≡ true → Any (IsRefused c form) (texts_of (sites_of changes))
  written_refused changes h e = subst (Any (IsRefused c form)) (old_texts changes) (some_refused is_replaced old_text (λ x h e. refused_before (old_text x) x.fate h e) changes h e)

  -- ---- the manifest

  module _ (old : List ℕ) where
    mended_laws : (new : Vec ℕ) (left : Bool) → IsMended c form old new.items left → FixLaws c form old (record { bytes = Some new; is_left = left })
    mended_laws new left m =
        let changes = m.changes in
        let fates = m.goes.goes.fates in
        let texts = sym m.declares.texts_are in
        record {
          sites = sites_of changes;
          declared = m.goes.declared;
          again = m.declares.sites;
          declared_again = m.declares.declared;
          each = subst (AllZip (IsTextAfter c form) (texts_of (sites_of changes))) texts (each_after changes fates);
          needless = λ r. let none = none_written changes fates r in let some = m.some in absurd cc;
          whole = λ e. subst (All (IsRead c form)) texts (all_read changes fates (sym m.left_is ∙ e));
          left = λ e. subst (Any (IsRefused c form)) texts (left_refused changes fates (sym m.left_is ∙ e));
        }

    kept_laws : (left : Bool) → IsKept c form old left → FixLaws c form old (record { bytes = None; is_left = left })
    kept_laws left m =
        let changes = m.changes in
        let fates = m.goes.goes.fates in
        let texts = same_texts changes m.none in
        record {
          sites = sites_of changes;
          declared = m.goes.declared;
          again = sites_of changes;
          declared_again = m.goes.declared;
          each = each_stays (texts_of (sites_of changes));
          needless = λ r. (refl, m.left_is ∙ none_left changes fates r);
          whole = λ e. subst (All (IsRead c form)) texts (all_read changes fates (sym m.left_is ∙ e));
          left = λ e. subst (Any (IsRefused c form)) texts (left_refused changes fates (sym m.left_is ∙ e));
        }

    given_up_laws : (left : Bool) → IsGivenUp c form old left → FixLaws c form old (record { bytes = None; is_left = left })
    given_up_laws left m =
        let changes = m.changes in
        let fates = m.goes.goes.fates in
        record {
          sites = sites_of changes;
          declared = m.goes.declared;
          again = sites_of changes;
          declared_again = m.goes.declared;
          each = each_stays (texts_of (sites_of changes));
          needless = λ r. let none = none_written changes fates r in let some = m.some in absurd cc;
          whole = λ e. let is = m.left_is in absurd cc;
          left = λ e. written_refused changes fates m.some;
        }

    by_bytes : (bytes : Option (Vec ℕ)) (left : Bool) → IsFixed c form old bytes left → FixLaws c form old (record { bytes = bytes; is_left = left })
    by_bytes (Some new) left m = mended_laws new left m
    by_bytes None left (inl m) = kept_laws left m
    by_bytes None left (inr m) = given_up_laws left m

    pub laws : (fixed : FixedManifest) → IsFixed c form old fixed.bytes fixed.is_left → FixLaws c form old fixed
    laws fixed m = by_bytes fixed.bytes fixed.is_left m
