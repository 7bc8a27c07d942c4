-- A text may be cut behind a spelling of its front.
use Rattle.std.proofs.Common.{◌≡◌, ℕ, ◌+◌, ◌≤◌, Bool, true, false, cond, ◌&&◌, List, [], ◌∷◌, ◌++◌, map, length, take, drop, get_or, Some, refl, sym, ◌∙◌, ap, subst, arith, IsUtf8, IsCharBoundary, find, nat_lt, le-ltb}
use Rattle.std.specs.Str.{bytes_eq, chars, encode_utf8_all, all_scalars}
use Rattle.std.specs.Char.{to_ascii_lowercase}
use Rattle.std.proofs.lemmas.List.{take-append-drop, map-append, length-map, get_or-map}
use Rattle.std.proofs.lemmas.Slice.Eq.{bytes_eq-Decides}
use Rattle.std.proofs.lemmas.Str.{chars-append, encodes-append, encodes-chars, scalars-chars, IsCharBoundary-at_seam}
use Rattle.std_alloc.proofs.string.Cased.{lowered}
use lib.Utf8.{scalar}
use Rattle.spdx_catalogue.specs.Names.{begins_caseless}

first : {A : Type 0} (p : A → Bool) (y : A) (xs : List A) (x : A) (b : Bool) → p y ≡ b → Some x ≡ cond b (Some y) (find p xs) → (Some x ≡ find p xs → p x ≡ true) → p x ≡ true
first p y xs x true t e more = let same : x ≡ y = cc in ap p same ∙ t
first p y xs x false t e more = more e

pub find_passes : {A : Type 0} (p : A → Bool) (xs : List A) (x : A) → Some x ≡ find p xs → p x ≡ true
find_passes p [] x e = absurd cc
find_passes p (y ∷ xs) x e = first p y xs x (p y) refl e (find_passes p xs x)

and_both : (a b : Bool) → a && b ≡ true → (a ≡ true) × (b ≡ true)
and_both true b h = (refl, h)
and_both false b h = absurd cc

append_same : (xs ys zs : List ℕ) → xs ++ ys ≡ xs ++ zs → ys ≡ zs
append_same [] ys zs e = e
append_same (x ∷ xs) ys zs e = append_same xs ys zs cc

scalars_rest : (cs ds : List ℕ) → all_scalars (cs ++ ds) ≡ true → all_scalars ds ≡ true
scalars_rest [] ds e = e
scalars_rest (c ∷ cs) ds e = scalars_rest cs ds (and_both (scalar c) (all_scalars (cs ++ ds)) e).1

-- what follows a text in a text is a text
rest_utf8 : (xs ys : List ℕ) → IsUtf8 (xs ++ ys) → IsUtf8 xs → IsUtf8 ys
rest_utf8 xs ys u v =
    let split : chars (xs ++ ys) ≡ chars xs ++ chars ys = chars-append xs ys v in
    let all : xs ++ ys ≡ xs ++ encode_utf8_all (chars ys) = sym (encodes-chars (xs ++ ys) u) ∙ ap encode_utf8_all split ∙ encodes-append (chars xs) (chars ys) ∙ ap (λ (z : List ℕ). z ++ encode_utf8_all (chars ys)) (encodes-chars xs v) in
    let same : encode_utf8_all (chars ys) ≡ ys = sym (append_same xs ys (encode_utf8_all (chars ys)) all) in
    (chars ys, (scalars_rest (chars xs) (chars ys) (ap all_scalars (sym split) ∙ scalars-chars (xs ++ ys) u), same))

pub bytes_same : (xs ys : List ℕ) → bytes_eq xs ys ≡ true → xs ≡ ys
bytes_same xs ys e = (bytes_eq-Decides xs ys).0 e

-- where a lower case text may be cut, the text may
same_class : (a b : ℕ) → to_ascii_lowercase a ≡ b → (128 ≤ b → 192 ≤ b) → 128 ≤ a → 192 ≤ a
same_class a b e h l =
    let one = le-ltb a 65 (omega arith) in
    let two = le-ltb a 91 (omega arith) in
    let same : to_ascii_lowercase a ≡ a = ap (λ t. cond t a (cond (nat_lt a 91) (a + 32) a)) one ∙ ap (λ t. cond t (a + 32) a) two in
    omega (arith, h, sym e ∙ same)

pub caseless_cut : (prefix text : List ℕ) → IsUtf8 prefix → IsUtf8 text → begins_caseless prefix text ≡ true → IsCharBoundary text (length prefix)
caseless_cut prefix text u v e =
    let f = to_ascii_lowercase in
    let n = length prefix in
    let same : map f prefix ≡ map f (take n text) = bytes_same (map f prefix) (map f (take n text)) e in
    let low = map f text in
    let parts : low ≡ map f prefix ++ map f (drop n text) = ap (map f) (sym (take-append-drop n text)) ∙ map-append f (take n text) (drop n text) ∙ ap (λ (z : List ℕ). z ++ map f (drop n text)) (sym same) in
    let seam = IsCharBoundary-at_seam low (map f prefix) (map f (drop n text)) parts (rest_utf8 (map f prefix) (map f (drop n text)) (subst IsUtf8 parts (lowered text v)) (lowered prefix u)) in
    let cut : IsCharBoundary low n = subst (IsCharBoundary low) (length-map prefix f) seam in
    let long : length low ≡ length text = length-map text f in
    (omega (arith, cut.0), λ l. same_class (get_or text n 0) (get_or low n 0) (sym (get_or-map f text n 0 0 l)) (cut.1 (omega arith)))
