-- A path without the slashes at its end.
use Rattle.std.proofs.Common.{◌≡◌, ◌≢◌, ◌∙◌, refl, sym, ap, subst, ℕ, ◌-◌, ◌==◌, Bool, true, false, List, [], ◌∷◌, ◌++◌, length, take, drop, reverse, Option, None, Some, arith, lit<}
use Rattle.std.specs.Prelude.{IfSome}
use Rattle.std.specs.Str.Pattern.{CutsSuffixes, FindsCharSuffix, IsTrimEndMatches}
use Rattle.std.proofs.lemmas.List.{reverse-append, reverse-reverse, take-append-drop}
use Rattle.std.proofs.Math.Seq.{drop-length}
use Rattle.std.proofs.lemmas.Str.{encode_ascii, len_utf8_ascii}
use Rattle.std.proofs.lemmas.Str.Pattern.{drop_at_char}
use Rattle.check_sources.specs.Owed.{past_slashes, without_slashes}

abbrev Cuts : List ℕ → Option ℕ → Type 0
Cuts = FindsCharSuffix 47

past : (r : List ℕ) → past_slashes (47 ∷ r) ≡ past_slashes r
past r = grind arith

slash : (r : List ℕ) → without_slashes (r ++ 47 ∷ []) ≡ without_slashes r
slash r = ap (λ l. reverse (past_slashes l)) (reverse-append r (47 ∷ [])) ∙ ap reverse (past (reverse r))

ends : (bs : List ℕ) (n : ℕ) → Cuts bs (Some n) → bs ≡ take (length bs - n) bs ++ 47 ∷ []
ends bs n h =
    sym (take-append-drop (length bs - n) bs)
    ∙ ap (λ l. take (length bs - n) bs ++ l) (drop_at_char 47 bs (length bs - n) (length bs) h.1 (lit< tt) ∙ ap (λ l. 47 ∷ l) (drop-length bs))

cuts : (s : List ℕ) (ns : List ℕ) (r : List ℕ) → CutsSuffixes Cuts s ns r → without_slashes s ≡ without_slashes r
cuts s [] r h = ap without_slashes (sym h)
cuts s (n ∷ ns) r h =
    cuts s ns h.0 h.1 ∙ ap without_slashes (ends h.0 n h.2) ∙ slash (take (length h.0 - n) h.0) ∙ ap without_slashes (sym h.3)

kept : (b : ℕ) (bs : List ℕ) (is : Bool) → (b == 47) ≡ is → b ≢ 47 → past_slashes (b ∷ bs) ≡ b ∷ bs
kept b bs true e never = let same : b ≡ 47 = grind (arith, e) in absurd (never same)
kept b bs false e never = grind (arith, e)

-- the text backwards has no slash in front
none_left : (q : List ℕ) (o : Option ℕ) → Cuts (reverse q) o → IfSome o (λ n. n ≡ 0) → past_slashes q ≡ q
none_left [] o h is = refl
none_left (b ∷ q) None h is =
    kept b q (b == 47) refl
    (λ e. h (reverse q) (reverse-append (b ∷ []) q ∙ ap (λ (c : ℕ). reverse q ++ c ∷ []) e ∙ ap (λ (c : List ℕ). reverse q ++ c) (sym (encode_ascii 47 (lit< tt)))))
none_left (b ∷ q) (Some n) h is = absurd (omega (arith, h.0, is, len_utf8_ascii 47 (lit< tt)))

trimmed : (r : List ℕ) (o : Option ℕ) → Cuts r o → IfSome o (λ n. n ≡ 0) → without_slashes r ≡ r
trimmed r o h is =
    ap reverse (none_left (reverse r) o (subst (λ l. Cuts l o) (sym (reverse-reverse r)) h) is) ∙ reverse-reverse r

pub is_trimmed : (s r : List ℕ) → IsTrimEndMatches Cuts s r → r ≡ without_slashes s
is_trimmed s r h = sym (cuts s h.0.0 r h.0.1 ∙ trimmed r h.1.0 h.1.1 h.1.2)
