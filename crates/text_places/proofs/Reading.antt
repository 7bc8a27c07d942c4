-- What one more step adds to the elements.
use Rattle.std.proofs.Common.{◌≡◌, ℕ, zero, suc, ◌+◌, ◌-◌, ◌<◌, ◌∷◌, ◌++◌, [], List, length, drop, nat_eq, false, refl, sym, subst, ap, ◌∙◌, arith}
use Rattle.std.specs.List.{starts_with}
use Rattle.std.proofs.lemmas.List.{drop_more}
use Rattle.text_places.specs.Tags.{through}
use Rattle.std.specs.Option.{option_to_list}
use Rattle.text_places.specs.declared.element_texts.Element.{Element}
use Rattle.text_places.specs.Elements.{step_at, elements_from}

through-no : (mark : List ℕ) (b : ℕ) (bs : List ℕ) → starts_with nat_eq (b ∷ bs) mark ≡ false → through mark (b ∷ bs) ≡ 1 + through mark bs
through-no mark b bs t = rw t refl

-- the mark does not stand here
pub through-more : (mark xs : List ℕ) (i : ℕ) → i < length xs → starts_with nat_eq (drop i xs) mark ≡ false → through mark (drop i xs) ≡ 1 + through mark (drop (i + 1) xs)
through-more mark xs i l =
    subst (λ (ys : List ℕ). starts_with nat_eq ys mark ≡ false → through mark ys ≡ 1 + through mark (drop (i + 1) xs)) (sym (drop_more xs i 0 l)) (through-no mark _ _)

-- what was read is passed over
elements_from-skip : (name : List ℕ) (end skip : ℕ) (text : List ℕ) → elements_from name end skip text ≡ elements_from name end 0 (drop skip text)
elements_from-skip name end zero [] = refl
elements_from-skip name end (suc skip) [] = refl
elements_from-skip name end zero (b ∷ bs) = refl
elements_from-skip name end (suc skip) (b ∷ bs) = elements_from-skip name end skip bs

drop_tail : (b : ℕ) (bs : List ℕ) (n : ℕ) → 0 < n → drop (n - 1) bs ≡ drop n (b ∷ bs)
drop_tail b bs zero some = absurd (omega arith)
drop_tail b bs (suc n) some = ap (λ (k : ℕ). drop k bs) (omega arith)

pub elements_from-step : (name : List ℕ) (end : ℕ) (xs : List ℕ) → 0 < length xs → 0 < (step_at name end xs).read →
    elements_from name end 0 xs ≡ option_to_list (step_at name end xs).element ++ elements_from name end 0 (drop (step_at name end xs).read xs)
elements_from-step name end [] some read = absurd (omega arith)
elements_from-step name end (b ∷ bs) some read =
    let step = step_at name end (b ∷ bs) in
    ap (λ (later : List Element). option_to_list step.element ++ later)
    (elements_from-skip name end (step.read - 1) bs ∙ ap (elements_from name end 0) (drop_tail b bs step.read read))
