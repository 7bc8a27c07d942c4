-- What is said of a text follows from what becomes of it.
use Rattle.std.proofs.Common.{◌≡◌, inl, inr, ℕ, ◌+◌, Bool, true, false, List, [], ◌∷◌, ◌++◌, map, Option, Some, None, is_some, unwrap_or, refl, sym, ◌∙◌, ap, subst, arith}
use Rattle.std.specs.Prelude.{All, Any, count_by, if◌then◌else◌}
use Rattle.std.specs.Global.{Vec}
use Rattle.std.specs.List.{flat_map, AllZip}
use Rattle.std.proofs.lemmas.List.Elements.{All-nil, All-cons, All-head, All-tail, All-get_or}
use Rattle.std.proofs.lemmas.List.Sums.{sum_by-cons}
use Rattle.spdx_requirement.specs.Rows.{Rows}
use Rattle.file_fixes.specs.declared.Span.{Span}
use Rattle.file_fixes.specs.Mending.{Marked, marked, Piece, Site, IsFixOfBytes, IsCutAtSpans, Mends, spans_from, old_piece, new_piece}
use Rattle.file_fixes.proofs.Settled.{settled}
use Rattle.file_fixes.specs.declared.FixedText.{FixedText}
use Rattle.file_fixes.specs.Fixing.{IsRead, IsRefused, IsTextAfter, IsGiven, IsFixed, FixLaws, bytes_after, texts_in}
use Rattle.file_fixes.proofs.Texts.{texts_in-cut}

-- ---- sites that keep their expressions

abbrev IsKept : Site → Type 0
IsKept s = s.fix ≡ None

abbrev one : Site → ℕ
one s = if is_some s.fix then 1 else 0

old_texts : (ss : List Site) → map (λ (p : Piece). p.text) (map old_piece ss) ≡ map (λ (s : Site). s.text) ss
old_texts [] = refl
old_texts (s ∷ ss) = ap (λ (ts : List (List ℕ)). s.text ∷ ts) (old_texts ss)

new_texts : (ss : List Site) → map (λ (p : Piece). p.text) (map new_piece ss) ≡ map (λ (s : Site). unwrap_or s.fix s.text) ss
new_texts [] = refl
new_texts (s ∷ ss) = ap (λ (ts : List (List ℕ)). unwrap_or s.fix s.text ∷ ts) (new_texts ss)

kept : (ss : List Site) → All IsKept ss → map new_piece ss ≡ map old_piece ss
kept [] h = refl
kept (s ∷ ss) h =
    ap (λ (f : Option (List ℕ)). record { before = s.before; text = unwrap_or f s.text } ∷ map new_piece ss) (All-head IsKept s ss h)
    ∙ ap (λ (ps : List Piece). old_piece s ∷ ps) (kept ss (All-tail IsKept s ss h))

count_none : (ss : List Site) → All IsKept ss → count_by (λ (s : Site). is_some s.fix) ss ≡ 0
count_none [] h = refl
count_none (s ∷ ss) h =
    sum_by-cons one s ss
    ∙ ap (λ (f : Option (List ℕ)). (if is_some f then 1 else 0) + count_by (λ (s : Site). is_some s.fix) ss) (All-head IsKept s ss h)
    ∙ ap (λ (n : ℕ). 0 + n) (count_none ss (All-tail IsKept s ss h))

is_kept : (f : Option (List ℕ)) → ◌≡◌ {A = ℕ} (if is_some f then 1 else 0) 0 → f ≡ None
is_kept None e = refl
is_kept (Some x) e = absurd (omega (arith, e))

none_counted : (ss : List Site) → count_by (λ (s : Site). is_some s.fix) ss ≡ 0 → All IsKept ss
none_counted [] e = All-nil IsKept
none_counted (s ∷ ss) e =
    let n : count_by (λ (s : Site). is_some s.fix) (s ∷ ss) ≡ one s + count_by (λ (s : Site). is_some s.fix) ss = sum_by-cons one s ss in
    let first : one s ≡ 0 = omega (arith, n, e) in
    let others : count_by (λ (s : Site). is_some s.fix) ss ≡ 0 = omega (arith, n, e) in
    All-cons IsKept s ss (is_kept s.fix first) (none_counted ss others)

-- nothing is changed where no site has a fix
same : (old new : Marked) (ss : List Site) (rest : List ℕ) → All IsKept ss → IsCutAtSpans old (map old_piece ss) rest → IsCutAtSpans new (map new_piece ss) rest → new ≡ old
same old new ss rest h was is =
    let alike = kept ss h in
    let bytes : new.bytes ≡ old.bytes = sym is.whole ∙ ap (λ (ps : List Piece). flat_map (λ p. p.before ++ p.text) ps ++ rest) alike ∙ was.whole in
    let spans : new.spans ≡ old.spans = sym is.places ∙ ap (spans_from 0) alike ∙ was.places in
    ap (λ (b : List ℕ). marked b new.spans) bytes ∙ ap (λ (xs : List Span). marked old.bytes xs) spans

module _ (c : Rows) where
  abbrev Fixes : Site → Type 0
  Fixes s = IsFixOfBytes c s.text s.fix

  after : (text : List ℕ) (fix : Option (List ℕ)) → IsFixOfBytes c text fix → IsTextAfter c text (unwrap_or fix text)
  after text None h = inl refl
  after text (Some f) h = inr h.1

  each_after : (ss : List Site) → All Fixes ss → AllZip (IsTextAfter c) (map (λ (s : Site). s.text) ss) (map (λ (s : Site). unwrap_or s.fix s.text) ss)
  each_after [] h = tt
  each_after (s ∷ ss) h = (after s.text s.fix (All-head Fixes s ss h), each_after ss (All-tail Fixes s ss h))

  none_of : (text : List ℕ) (fix : Option (List ℕ)) → IsFixOfBytes c text fix → IsRead c text → fix ≡ None
  none_of text None h r = refl
  none_of text (Some f) h r = absurd (h.1.refused r.1)

  none_fixed : (ss : List Site) → All Fixes ss → All (IsRead c) (map (λ (s : Site). s.text) ss) → All IsKept ss
  none_fixed [] h r = All-nil IsKept
  none_fixed (s ∷ ss) h r =
      let texts = map (λ (s : Site). s.text) ss in
      All-cons IsKept s ss (none_of s.text s.fix (All-head Fixes s ss h) (All-head (IsRead c) s.text texts r))
      (none_fixed ss (All-tail Fixes s ss h) (All-tail (IsRead c) s.text texts r))

  -- ---- whether something is left

  not_both : (ts : List (List ℕ)) → All (IsRead c) ts → Any (IsRefused c) ts → ⊥
  not_both ts all any = any.4 (subst (IsRead c) any.3 (All-get_or (IsRead c) ts any.0 any.1 any.2 all))

  not_left : (b : Bool) (ts : List (List ℕ)) → (b ≡ true → Any (IsRefused c) ts) → All (IsRead c) ts → b ≡ false
  not_left false ts h all = refl
  not_left true ts h all = absurd (not_both ts all (h refl))

  same_left : (a b : Bool) (ts : List (List ℕ)) → (a ≡ true → Any (IsRefused c) ts) → (a ≡ false → All (IsRead c) ts) → (b ≡ true → Any (IsRefused c) ts) → (b ≡ false → All (IsRead c) ts) → b ≡ a
  same_left false b ts left whole left' whole' = not_left b ts left' (whole refl)
  same_left true true ts left whole left' whole' = refl
  same_left true false ts left whole left' whole' = absurd (not_both ts (whole' refl) (left refl))

  -- ---- the text

  not_given : (new : List ℕ) (count : ℕ) (bytes : Option (Vec ℕ)) → IsGiven new count bytes → count ≡ 0 → bytes ≡ None
  not_given new count None h e = refl
  not_given new count (Some v) h e = absurd (omega (arith, h.0, e))

  bytes_are : (old new : Marked) (count : ℕ) (bytes : Option (Vec ℕ)) → IsGiven new.bytes count bytes → (count ≡ 0 → new ≡ old) → bytes_after old.bytes bytes ≡ new.bytes
  bytes_are old new count None h e = sym (ap (λ (m : Marked). m.bytes) (e h))
  bytes_are old new count (Some v) h e = h.1

  module _ (old : Marked) (fixed : FixedText) (h : IsFixed c old fixed) where
    m : Mends c old h.new h.count
    m = h.mends

    old_texts_are : texts_in old ≡ map (λ (s : Site). s.text) m.sites
    old_texts_are = texts_in-cut old (map old_piece m.sites) m.rest m.was ∙ old_texts m.sites

    new_texts_are : texts_in h.new ≡ map (λ (s : Site). unwrap_or s.fix s.text) m.sites
    new_texts_are = texts_in-cut h.new (map new_piece m.sites) m.rest m.is ∙ new_texts m.sites

    unchanged : h.count ≡ 0 → h.new ≡ old
    unchanged e = same old h.new m.sites m.rest (none_counted m.sites (sym m.counted ∙ e)) m.was m.is

    comes : marked (bytes_after old.bytes fixed.bytes) h.new.spans ≡ h.new
    comes = ap (λ (b : List ℕ). marked b h.new.spans) (bytes_are old h.new h.count fixed.bytes h.given unchanged)

    none : All (IsRead c) (texts_in old) → h.count ≡ 0
    none r = m.counted ∙ count_none m.sites (none_fixed m.sites m.fixes (subst (All (IsRead c)) old_texts_are r))

    needless : All (IsRead c) (texts_in old) → (fixed.bytes ≡ None) × (fixed.is_left ≡ false)
    needless r =
        (not_given h.new.bytes h.count fixed.bytes h.given (none r), not_left fixed.is_left (texts_in h.new) h.left (subst (λ (t : Marked). All (IsRead c) (texts_in t)) (sym (unchanged (none r))) r))

    again_same : (again : FixedText) → IsFixed c h.new again → (again.bytes ≡ None) × (again.is_left ≡ fixed.is_left)
    again_same again k =
        let stays = settled c old h.new h.count m k.new k.count k.mends in
        let left = subst (λ (t : Marked). again.is_left ≡ true → Any (IsRefused c) (texts_in t)) stays.0 k.left in
        let whole = subst (λ (t : Marked). again.is_left ≡ false → All (IsRead c) (texts_in t)) stays.0 k.whole in
        (not_given k.new.bytes k.count again.bytes k.given stays.1, same_left fixed.is_left again.is_left (texts_in h.new) h.left h.whole left whole)

    pub laws : FixLaws c old fixed
    laws = record {
      spans = h.new.spans;
      each =
          subst (λ (t : Marked). AllZip (IsTextAfter c) (texts_in old) (texts_in t)) (sym comes)
          (subst (λ (ts : List (List ℕ)). AllZip (IsTextAfter c) ts (texts_in h.new)) (sym old_texts_are)
          (subst (λ (ts : List (List ℕ)). AllZip (IsTextAfter c) (map (λ (s : Site). s.text) m.sites) ts) (sym new_texts_are) (each_after m.sites m.fixes)));
      needless = needless;
      whole = λ e. subst (λ (t : Marked). All (IsRead c) (texts_in t)) (sym comes) (h.whole e);
      settled = λ again k. again_same again (subst (λ (t : Marked). IsFixed c t again) comes k);
    }
