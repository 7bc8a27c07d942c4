-- How far it is to a closing.
use Rattle.std.proofs.Common.{◌≡◌, ℕ, ◌+◌, ◌<◌, false, List, ◌∷◌, length, drop, refl, sym, subst}
use Rattle.std.proofs.lemmas.List.{drop_more}
use Rattle.license_tags.specs.declared.comment.Comment.{Comment}
use Rattle.license_tags.specs.Tags.{closes, closing_place}

closing_no : (m : Comment) (x : ℕ) (xs : List ℕ) → closes m (x ∷ xs) ≡ false → closing_place m (x ∷ xs) ≡ 1 + closing_place m xs
closing_no m x xs t = rw t refl

pub closing_place-more : (m : Comment) (xs : List ℕ) (i : ℕ) → i < length xs → closes m (drop i xs) ≡ false → closing_place m (drop i xs) ≡ 1 + closing_place m (drop (i + 1) xs)
closing_place-more m xs i l =
    subst (λ (ys : List ℕ). closes m ys ≡ false → closing_place m ys ≡ 1 + closing_place m (drop (i + 1) xs)) (sym (drop_more xs i 0 l)) (closing_no m _ _)
