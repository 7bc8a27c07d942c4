-- A draft against its text.
use Rattle.std.proofs.Common.{◌≡◌, ℕ, ◌-◌, ◌≤◌, Bool, true, false, cond, List, [], ◌∷◌, ◌++◌, length, take, drop, Some, None, refl, sym, ◌∙◌, ap, subst, arith, nat_eq, bytes_eq, append_assoc, append-nil, length-append, ◌==◌, eqb-true, Result, Ok, Err, IfErr}
use Rattle.std.specs.List.{starts_with}
use Rattle.std.proofs.lemmas.List.{take-append-drop}
use Rattle.std.proofs.lemmas.Slice.Eq.{bytes_eq-Decides, starts_is}
use Rattle.std.proofs.lemmas.Bool.Decides.{Decides-eqb}
use Rattle.std.proofs.Math.Seq.{take-append_seam, take-length}
use Rattle.spdx_catalogue.proofs.Caseless.{bytes_same}
use Rattle.spdx_canonical.specs.Draft.{Drafted, extended, IsOff}

abbrev pub Off : List ℕ → List ℕ → Type 0
Off text w = starts_with nat_eq text w ≡ false

begins : (text w rest : List ℕ) → text ≡ w ++ rest → starts_with nat_eq text w ≡ true
begins text w rest e = (starts_is Decides-eqb text w (starts_with nat_eq text w) refl).1 rest e

begun : (text w : List ℕ) → starts_with nat_eq text w ≡ true → text ≡ w ++ drop (length w) text
begun text w e = (starts_is Decides-eqb text w (starts_with nat_eq text w) refl).0 e

not_off : (text w : List ℕ) → starts_with nat_eq text w ≡ true → Off text w → ⊥
not_off text w h k = absurd (let z : true ≡ false = sym h ∙ k in cc)

off_by : (text w : List ℕ) → (starts_with nat_eq text w ≡ true → ⊥) → Off text w
off_by text w f = go (starts_with nat_eq text w) refl
  where
    go : (b : Bool) → starts_with nat_eq text w ≡ b → Off text w
    go true e = absurd (f e)
    go false e = e

-- a text that does not begin with w begins with nothing longer
pub still_off : (text w piece : List ℕ) → Off text w → Off text (w ++ piece)
still_off text w piece o = off_by text (w ++ piece) (λ e. not_off text w (begins text w (piece ++ drop (length (w ++ piece)) text) (begun text (w ++ piece) e ∙ append_assoc w piece (drop (length (w ++ piece)) text))) o)

append_same : (xs ys zs : List ℕ) → xs ++ ys ≡ xs ++ zs → ys ≡ zs
append_same [] ys zs e = e
append_same (x ∷ xs) ys zs e = append_same xs ys zs cc

-- where the rest of the text does not begin with the piece
pub now_off : (text rest piece : List ℕ) (n : ℕ) → rest ≡ drop n text → Off rest piece → Off text (take n text ++ piece)
now_off text rest piece n e o =
    let all : text ≡ take n text ++ rest = sym (take-append-drop n text) ∙ ap (λ (x : List ℕ). take n text ++ x) (sym e) in
    off_by text (take n text ++ piece) (λ h.
    let d = drop (length (take n text ++ piece)) text in
    not_off rest piece (begins rest piece d (append_same (take n text) rest (piece ++ d) (sym all ∙ begun text (take n text ++ piece) h ∙ append_assoc (take n text) piece d))) o)

-- where it does
pub goes_on : (text rest new piece : List ℕ) → length rest ≤ length text → rest ≡ drop (length text - length rest) text → rest ≡ piece ++ new → take (length text - length new) text ≡ take (length text - length rest) text ++ piece
goes_on text rest new piece l e h =
    let n = length text - length rest in
    let front = take n text ++ piece in
    let all : text ≡ front ++ new = sym (take-append-drop n text) ∙ ap (λ (x : List ℕ). take n text ++ x) (sym e ∙ h) ∙ sym (append_assoc (take n text) piece new) in
    let len : length text - length new ≡ length front = omega (arith, ap length all, length-append front new) in
    ap (λ k. take k text) len ∙ ap (take (length front)) all ∙ take-append_seam front new

-- what is written is not the text
pub differs : (text w : List ℕ) → Off text w → bytes_eq w text ≡ false
differs text w o = go (bytes_eq w text) refl
  where
    go : (b : Bool) → bytes_eq w text ≡ b → b ≡ false
    go true e = absurd (not_off text w (begins text w [] (sym (bytes_same w text e) ∙ sym (append-nil w))) o)
    go false e = refl

pub unbegun : (rest piece : List ℕ) → ((more : List ℕ) → rest ≡ piece ++ more → ⊥) → Off rest piece
unbegun rest piece f = off_by rest piece (λ e. f (drop (length piece) rest) (begun rest piece e))

-- ---- pieces one after another

pub off_more : (d : Drafted) (a b : List ℕ) → IsOff d a → IsOff d (a ++ b)
off_more d a b o = subst (Off d.text) (append_assoc d.bytes a b) (still_off d.text (d.bytes ++ a) b o)

-- two drafts that come to the same
pub off_same : (d e : Drafted) (a b : List ℕ) → extended d a ≡ extended e b → IsOff d a → IsOff e b
off_same d e a b s o = subst (λ (x : Drafted). Off x.text x.bytes) s o

-- a text that goes on with the piece is not off
pub not_off_text : (d : Drafted) (piece more : List ℕ) → IsOff d piece → d.text ≡ (d.bytes ++ piece) ++ more → ⊥
not_off_text d piece more o e = not_off d.text (d.bytes ++ piece) (begins d.text (d.bytes ++ piece) more e) o

-- ---- what is left of these in the code

pub either_off : (b : Bool) (text w piece : List ℕ) → Off text w → Off text (cond b (w ++ piece) w)
either_off true text w piece o = still_off text w piece o
either_off false text w piece o = o

-- a draft that has come to the end of its text
pub all_written : (text rest : List ℕ) → (length rest == 0) ≡ true → cond (bytes_eq (take (length text - length rest) text) text) None (Some (take (length text - length rest) text)) ≡ None
all_written text rest e =
    let none : length text - length rest ≡ length text = omega (arith, eqb-true (length rest) 0 e) in
    let whole : take (length text - length rest) text ≡ text = ap (λ n. take n text) none ∙ take-length text in
    ap (λ b. cond b None (Some (take (length text - length rest) text))) (ap (λ (x : List ℕ). bytes_eq x text) whole ∙ (bytes_eq-Decides text text).1 refl)

pub err_any : {X E P : Type 0} (r : Result X E) → P → IfErr r (λ _. P)
err_any (Ok x) p = tt
err_any (Err e) p = p

pub err_each : {X E P Q : Type 0} (r : Result X E) → (P → Q) → IfErr r (λ _. P) → IfErr r (λ _. Q)
err_each (Ok x) f p = tt
err_each (Err e) f p = f p
