-- Which part of a text is shown, and what the reader has of it.
use Rattle.std.proofs.Common.{◌≡◌, ℕ, zero, suc, ◌+◌, ◌-◌, ◌<◌, ◌≤◌, min, max, ◌⊎◌, inl, inr, List, [], ◌∷◌, ◌++◌, Bool, true, false, ◌&&◌, cond, leb, length, get_or, take, drop, slice_range, chars, flat_map, codes, refl, sym, ap, ◌∙◌, subst, append_assoc, length-take, arith}
use Rattle.std.proofs.lemmas.Bool.Decides.{nat_tests}
use Rattle.std.proofs.lemmas.Bool.{cases_order}
use Rattle.std.proofs.Math.Nat.{le-max_left}
use Rattle.std.proofs.lemmas.List.{take-append-drop, take-take, drop-take, drop-drop, get_or_past}
use Rattle.std.proofs.lemmas.Grind.{flat_map-append}
use Rattle.std.proofs.lemmas.Str.{IsCharBoundary-start, IsCharBoundary-end, IsUtf8-between, chars-append}
use Rattle.std.specs.Str.{IsUtf8, IsCharBoundary}
use Rattle.foreign_text.specs.declared.sinks.Sink.TheVariants.{Line}
use Rattle.foreign_text.specs.Written.{text_for, char_for}
use Rattle.finding_forms.specs.Finding.{begins_character, place_in}
use Rattle.finding_forms.specs.Excerpt.{is_place, first_place, last_place, is_long, shown_from, shown_to, front_of, excerpt, behind_of, dots, fault_end, IsPart, ShowsFault, StandsUnder, MarksAll}

-- ---- places

truth : (b : Bool) → (b ≡ true) ⊎ (b ≡ false)
truth true = inl refl
truth false = inr refl

pick : {X : Type 0} (b : Bool) → (x y z : X) → (b ≡ true → z ≡ x) → (b ≡ false → z ≡ y) → z ≡ cond b x y
pick true x y z h k = h refl
pick false x y z h k = k refl

held : (P : ℕ → Type 0) (b : Bool) (x y : ℕ) → (b ≡ true → P x) → (b ≡ false → P y) → P (cond b x y)
held P true x y h k = h refl
held P false x y h k = k refl

larger : (P : ℕ → Type 0) (a b : ℕ) → P a → P b → P (max a b)
larger P a b h k = elim (cases_order a b) [ inl e ↦ subst P (omega arith) h | inr (inl l) ↦ subst P (omega arith) k | inr (inr g) ↦ subst P (omega arith) h ]

smaller : (P : ℕ → Type 0) (a b : ℕ) → P a → P b → P (min a b)
smaller P a b h k = elim (cases_order a b) [ inl e ↦ subst P (omega arith) h | inr (inl l) ↦ subst P (omega arith) h | inr (inr g) ↦ subst P (omega arith) k ]

begins : (b : ℕ) → (128 ≤ b → 192 ≤ b) → begins_character b ≡ true
begins b h = grind (arith, nat_tests)

begun : (b : ℕ) → begins_character b ≡ true → 128 ≤ b → 192 ≤ b
begun b h l = grind (arith, nat_tests)

and_both : (a b : Bool) → a ≡ true → b ≡ true → (a && b) ≡ true
and_both true true h k = refl
and_both true false h k = k
and_both false b h k = h

both : (a b : Bool) → (a && b) ≡ true → (a ≡ true) × (b ≡ true)
both true b h = (refl, h)
both false b h = (h, absurd (cc))

byte_at_end : (text : List ℕ) (i : ℕ) → length text ≤ i → begins_character (get_or text i 0) ≡ true
byte_at_end text i h = rw (get_or_past text i 0 h) refl

pub placed : (text : List ℕ) (i : ℕ) → IsCharBoundary text i → is_place text i ≡ true
placed text i h =
    and_both (leb i (length text)) (begins_character (get_or text i 0)) (grind (arith, nat_tests)) (elim (cases_order i (length text)) [ inl e ↦ byte_at_end text i (omega arith) | inr (inl l) ↦ begins (get_or text i 0) (h.1 l) | inr (inr g) ↦ byte_at_end text i (omega arith) ])

pub place : (text : List ℕ) (i : ℕ) → is_place text i ≡ true → IsCharBoundary text i
place text i h =
    let p = both (leb i (length text)) (begins_character (get_or text i 0)) h in
    let l : i ≤ length text = grind (arith, nat_tests) in
    (l, λ _ k. begun (get_or text i 0) p.1 k)

displaced : (text : List ℕ) (i : ℕ) → ¬ (IsCharBoundary text i) → is_place text i ≡ false
displaced text i h = elim (truth (is_place text i)) [ inl t ↦ absurd (h (place text i t)) | inr f ↦ f ]

pub place_in_place : (text : List ℕ) (at : ℕ) → IsCharBoundary text (place_in text at)
place_in_place text at = held (IsCharBoundary text) (is_place text at) at (length text) (λ t. place text at t) (λ _. IsCharBoundary-end text)

pub fault_end_place : (text : List ℕ) (start end : ℕ) → IsCharBoundary text (fault_end text start end)
fault_end_place text start end =
    larger (IsCharBoundary text) (place_in text start) (place_in text end) (place_in_place text start) (place_in_place text end)

-- ---- the places that the code finds are those of the definitions

pub first_is : (text : List ℕ) (low gap r : ℕ) → low ≤ r → r ≤ low + gap → IsCharBoundary text r → ((i : ℕ) → low ≤ i → i < r → ¬ (IsCharBoundary text i)) → r ≡ first_place text low gap
first_is text low zero r a b h n = omega arith
first_is text low (suc gap) r a b h n =
    pick (is_place text low) low (first_place text (low + 1) gap) r
    (λ t. elim (cases_order low r) [ inl e ↦ sym e | inr (inl l) ↦ absurd (n low (omega arith) l (place text low t)) | inr (inr g) ↦ absurd (omega arith) ])
    (λ f. elim (cases_order low r) [ inl e ↦ absurd (let t : is_place text low ≡ true = placed text low (subst (IsCharBoundary text) (sym e) h) in cc) | inr (inl l) ↦ first_is text (low + 1) gap r (omega arith) (omega arith) h (λ i p q. n i (omega arith) q) | inr (inr g) ↦ absurd (omega arith) ])

pub last_is : (text : List ℕ) (high r : ℕ) → r ≤ high → IsCharBoundary text r → ((i : ℕ) → r < i → i ≤ high → ¬ (IsCharBoundary text i)) → r ≡ last_place text high
last_is text zero r a h n = omega arith
last_is text (suc high) r a h n =
    pick (is_place text (suc high)) (suc high) (last_place text high) r
    (λ t. elim (cases_order r (suc high)) [ inl e ↦ e | inr (inl l) ↦ absurd (n (suc high) l (omega arith) (place text (suc high) t)) | inr (inr g) ↦ absurd (omega arith) ])
    (λ f. elim (cases_order r (suc high)) [ inl e ↦ absurd (let t : is_place text (suc high) ≡ true = placed text (suc high) (subst (IsCharBoundary text) e h) in cc) | inr (inl l) ↦ last_is text high r (omega arith) h (λ i p q. n i p (omega arith)) | inr (inr g) ↦ absurd (omega arith) ])

long : (text : List ℕ) → 200 < length text → is_long text ≡ true
long text l = grind (arith, nat_tests)

pub from_is : (text : List ℕ) (start low r : ℕ) → 200 < length text → low ≡ place_in text start - 60 → low ≤ r → IsCharBoundary text r → ((i : ℕ) → low ≤ i → i < r → ¬ (IsCharBoundary text i)) → r ≡ shown_from text start
from_is text start low r l e a h n =
    let b : r ≤ place_in text start = elim (cases_order r (place_in text start)) [ inl same ↦ omega arith | inr (inl less) ↦ omega arith | inr (inr more) ↦ absurd (n (place_in text start) (omega arith) more (place_in_place text start)) ] in
    rw (long text l)
    (first_is text (place_in text start - 60) (min (place_in text start) 60) r (omega arith) (omega arith) h (λ i p q. n i (omega arith) q))

pub to_is : (text : List ℕ) (start high r : ℕ) → 200 < length text → high ≡ min (place_in text start + 120) (length text) → r ≤ high → IsCharBoundary text r → ((i : ℕ) → r < i → i ≤ high → ¬ (IsCharBoundary text i)) → r ≡ shown_to text start
to_is text start high r l e a h n =
    rw (long text l)
    (last_is text (min (place_in text start + 120) (length text)) r (omega arith) h (λ i p q. n i p (omega arith)))

-- ---- the places of the definitions

-- a place from one on, and up to another
pub record IsBetween (text : List ℕ) (low high at : ℕ) : Type 0 where
  pub from : low ≤ at
  pub to : at ≤ high
  pub place : IsCharBoundary text at

first_between : (text : List ℕ) (low gap : ℕ) → IsCharBoundary text (low + gap) → IsBetween text low (low + gap) (first_place text low gap)
first_between text low zero h = record { from = omega arith; to = omega arith; place = subst (IsCharBoundary text) (omega arith) h }
first_between text low (suc gap) h =
    held (IsBetween text low (low + suc gap)) (is_place text low) low (first_place text (low + 1) gap)
    (λ t. record { from = omega arith; to = omega arith; place = place text low t })
    (λ _. let more : IsBetween text (low + 1) (low + 1 + gap) (first_place text (low + 1) gap) = first_between text (low + 1) gap (subst (IsCharBoundary text) (omega arith) h) in
    record { from = omega arith; to = omega arith; place = more.place })

last_between : (text : List ℕ) (high i : ℕ) → IsCharBoundary text i → i ≤ high → IsBetween text i high (last_place text high)
last_between text zero i h l = record { from = omega arith; to = omega arith; place = subst (IsCharBoundary text) (omega arith) h }
last_between text (suc high) i h l =
    held (IsBetween text i (suc high)) (is_place text (suc high)) (suc high) (last_place text high)
    (λ t. record { from = l; to = omega arith; place = place text (suc high) t })
    (λ f. elim (cases_order i (suc high)) [ inl e ↦ absurd (let t : is_place text (suc high) ≡ true = placed text (suc high) (subst (IsCharBoundary text) e h) in cc) | inr (inl b) ↦ let more : IsBetween text i high (last_place text high) = last_between text high i h (omega arith) in record { from = more.from; to = omega arith; place = more.place } | inr (inr g) ↦ absurd (omega arith) ])

short : (text : List ℕ) → is_long text ≡ false → length text ≤ 200
short text e = grind (arith, nat_tests)

pub from_between : (text : List ℕ) (start : ℕ) → IsUtf8 text → IsBetween text 0 (place_in text start) (shown_from text start)
from_between text start u =
    held (IsBetween text 0 (place_in text start)) (is_long text) (first_place text (place_in text start - 60) (min (place_in text start) 60)) 0
    (λ _. let more = first_between text (place_in text start - 60) (min (place_in text start) 60) (subst (IsCharBoundary text) (omega arith) (place_in_place text start)) in
    record { from = omega arith; to = omega (arith, more.to); place = more.place })
    (λ _. record { from = omega arith; to = omega arith; place = IsCharBoundary-start text u })

-- a part of at most 120 bytes from the place on ends within what is shown
pub to_between : (text : List ℕ) (start end : ℕ) → IsCharBoundary text end → end ≤ place_in text start + 120 → IsBetween text end (length text) (shown_to text start)
to_between text start end h l =
    held (IsBetween text end (length text)) (is_long text) (last_place text (min (place_in text start + 120) (length text))) (length text)
    (λ _. let more = last_between text (min (place_in text start + 120) (length text)) end h (let b = h.0 in omega arith) in
    record { from = more.from; to = omega (arith, more.to); place = more.place })
    (λ _. record { from = h.0; to = omega arith; place = IsCharBoundary-end text })

-- ---- what the reader has of it

cut : (xs : List ℕ) (a b c : ℕ) → a ≤ b → b ≤ c → slice_range xs a c ≡ slice_range xs a b ++ slice_range xs b c
cut xs a b c h k =
    sym (take-append-drop (b - a) (take (c - a) (drop a xs)))
    ∙ ap (λ (front : List ℕ). front ++ drop (b - a) (take (c - a) (drop a xs))) (take-take (b - a) (c - a) (drop a xs) (omega arith))
    ∙ ap (λ (rest : List ℕ). take (b - a) (drop a xs) ++ rest) (ap (λ (n : ℕ). drop (b - a) (take n (drop a xs))) (let e : c - a ≡ (b - a) + (c - b) = omega arith in e) ∙ drop-take (b - a) (c - b) (drop a xs) ∙ ap (λ (rest : List ℕ). take (c - b) rest) (drop-drop (b - a) a xs ∙ ap (λ (n : ℕ). drop n xs) (let e : a + (b - a) ≡ b = omega arith in e)))

split : (xs : List ℕ) (a b : ℕ) → a ≤ b → xs ≡ take a xs ++ (slice_range xs a b ++ drop b xs)
split xs a b h =
    sym (take-append-drop a xs)
    ∙ ap (λ (rest : List ℕ). take a xs ++ rest) (sym (take-append-drop (b - a) (drop a xs)) ∙ ap (λ (rest : List ℕ). take (b - a) (drop a xs) ++ rest) (drop-drop (b - a) a xs ∙ ap (λ (n : ℕ). drop n xs) (let e : a + (b - a) ≡ b = omega arith in e)))

pub part : (text : List ℕ) (start : ℕ) → IsUtf8 text → IsPart text start
part text start u =
    let f = from_between text start u in
    let t = to_between text start (place_in text start) (place_in_place text start) (omega arith) in
    record { parts = split text (shown_from text start) (shown_to text start) (omega (arith, f.to, t.from)); begins = f.place; ends = t.place }

pub fault : (text : List ℕ) (start : ℕ) → IsUtf8 text → ShowsFault text start
fault text start u end h l = ((from_between text start u).to, (to_between text start end h l).from)

-- a part of a text has no more bytes than there are between its ends
part_bound : (xs : List ℕ) (a b n : ℕ) → b ≤ a + n → length (slice_range xs a b) ≤ n
part_bound xs a b n h = omega (arith, length-take {A = ℕ} (b - a) (drop a xs))

long_bound : (text : List ℕ) (start : ℕ) → last_place text (min (place_in text start + 120) (length text)) ≤ first_place text (place_in text start - 60) (min (place_in text start) 60) + 180
long_bound text start =
    let f = first_between text (place_in text start - 60) (min (place_in text start) 60) (subst (IsCharBoundary text) (omega arith) (place_in_place text start)) in
    let t = last_between text (min (place_in text start + 120) (length text)) (place_in text start) (place_in_place text start) (let b = (place_in_place text start).0 in omega arith) in
    omega (arith, f.from, t.to)

pub bound : (text : List ℕ) (start : ℕ) → length (excerpt text start) ≤ 200
bound text start =
    elim (truth (is_long text)) [ inl t ↦ rw t (part_bound text _ _ 200 (omega (arith, long_bound text start))) | inr f ↦ rw f (part_bound text 0 (length text) 200 (omega (arith, short text f))) ]

joined : (a b : List ℕ) → IsUtf8 a → text_for Line (a ++ b) ≡ text_for Line a ++ text_for Line b
joined a b u = ap (λ (cs : List ℕ). flat_map (char_for Line) cs) (chars-append a b u) ∙ flat_map-append (char_for Line) (chars a) (chars b)

pub under : (text : List ℕ) (start end : ℕ) → IsUtf8 text → StandsUnder text start end
under text start end u =
    let f = from_between text start u in
    let t = to_between text start (place_in text start) (place_in_place text start) (omega arith) in
    let at = place_in text start in
    let last = min (fault_end text start end) (shown_to text start) in
    let ends : IsCharBoundary text last = smaller (IsCharBoundary text) (fault_end text start end) (shown_to text start) (fault_end_place text start end) t.place in
    let before = slice_range text (shown_from text start) at in
    let marked = slice_range text at last in
    let after = slice_range text last (shown_to text start) in
    let low : at ≤ last = omega (arith, t.from, le-max_left at (place_in text end)) in
    let high : last ≤ shown_to text start = omega arith in
    let parts : excerpt text start ≡ before ++ (marked ++ after) =
    cut text (shown_from text start) at (shown_to text start) f.to (omega (arith, low, high))
    ∙ ap (λ (rest : List ℕ). before ++ rest) (cut text at last (shown_to text start) low high) in
    let shown : text_for Line (excerpt text start) ≡ text_for Line before ++ (text_for Line marked ++ text_for Line after) =
    ap (text_for Line) parts
    ∙ joined before (marked ++ after) (IsUtf8-between text (shown_from text start) at u f.to f.place (place_in_place text start))
    ∙ ap (λ (rest : List ℕ). text_for Line before ++ rest) (joined marked after (IsUtf8-between text at last u low (place_in_place text start) ends)) in
    (text_for Line after ++ (dots (behind_of text start) ++ 10 ∷ []), ap (λ (line : List ℕ). codes "  " ++ (dots (front_of text start) ++ (line ++ (dots (behind_of text start) ++ 10 ∷ [])))) shown ∙ simp append_assoc)

pub all : (text : List ℕ) (start end : ℕ) → MarksAll text start end
all text start end l =
    let t = to_between text start (fault_end text start end) (fault_end_place text start end) l in
    ap (λ (n : ℕ). slice_range text (place_in text start) n) (omega (arith, t.from))
