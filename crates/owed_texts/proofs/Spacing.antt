-- Bytes that are spaced, one more.
use Rattle.std.proofs.Common.{◌≡◌, ℕ, ◌+◌, ◌≤◌, zero, suc, List, [], ◌∷◌, ◌++◌, drop, length, ◌∙◌, ap, sym, refl, add-one, append_assoc}
use Rattle.std.specs.Prelude.{Option, slice_get}
use Rattle.std.proofs.lemmas.List.{append-nil, drop_all}
use Rattle.owed_texts.specs.Plain.{piece_of, spaced}

first_behind : (bs : List ℕ) (n : ℕ) → slice_get (drop n bs) 0 ≡ slice_get bs n
first_behind [] zero = refl
first_behind [] (suc n) = refl
first_behind (b ∷ bs) zero = refl
first_behind (b ∷ bs) (suc n) = first_behind bs n

pub one_spaced : (bs : List ℕ) (n b : ℕ) (next : Option ℕ) (text new whole : List ℕ) → new ≡ text ++ piece_of b next → next ≡ slice_get bs (n + 1) → drop n bs ≡ b ∷ drop (suc n) bs
    → text ++ spaced (drop n bs) ≡ whole → new ++ spaced (drop (n + 1) bs) ≡ whole
one_spaced bs n b next text new whole e is first before =
    let rest = spaced (drop (suc n) bs) in
    ap (λ (m : ℕ). new ++ spaced (drop m bs)) (add-one n)
    ∙ ap (λ (ys : List ℕ). ys ++ rest) (e ∙ ap (λ (o : Option ℕ). text ++ piece_of b o) (is ∙ ap (slice_get bs) (add-one n) ∙ sym (first_behind bs (suc n))))
    ∙ append_assoc text (piece_of b (slice_get (drop (suc n) bs) 0)) rest
    ∙ ap (λ (ys : List ℕ). text ++ spaced ys) (sym first)
    ∙ before

pub all_spaced : (bs : List ℕ) (n : ℕ) (text whole : List ℕ) → length bs ≤ n → text ++ spaced (drop n bs) ≡ whole → text ≡ whole
all_spaced bs n text whole le e = sym (append-nil text) ∙ ap (λ (ys : List ℕ). text ++ spaced ys) (sym (drop_all n bs le)) ∙ e
