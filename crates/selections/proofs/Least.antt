-- Going from the last member to the first: what is decided so far, and one step.
use Rattle.std.proofs.Common.{◌≡◌, ℕ, zero, suc, ◌+◌, Bool, true, false, List, [], ◌∷◌, ◌++◌, length, ◌⊎◌, replicate, set, refl, sym, ◌∙◌, ap, subst, inl, inr, arith}
use Rattle.std.proofs.lemmas.List.{append-nil, append_assoc, set_at, length-replicate, length-append, replicate_more, nil_from_length}
use Rattle.selections.specs.Selection.{IsWithin, IsLeast, LeavesOutLast, everything}

pub within_refl : (xs : List Bool) → IsWithin xs xs
within_refl [] = tt
within_refl (x ∷ xs) = ((λ h. h), within_refl xs)

pub within_whole : (front : List Bool) (k : ℕ) (tail : List Bool) → length front ≡ k → IsWithin (front ++ tail) (replicate k true ++ tail)
within_whole [] zero tail e = within_refl tail
within_whole [] (suc k) tail e = absurd (omega arith)
within_whole (x ∷ xs) zero tail e = absurd (omega arith)
within_whole (x ∷ xs) (suc k) tail e = ((λ h. refl), within_whole xs k tail (omega arith))

pub record Choosing (suffices : List Bool → Bool) (n k : ℕ) (chosen : List Bool) : Type 0 where
  pub back : List Bool
  pub shape : chosen ≡ replicate k true ++ back
  pub total : k + length back ≡ n
  pub sufficient : suffices chosen ≡ true
  pub decided : (front tail : List Bool) → length front ≡ k → length tail ≡ length back → suffices (front ++ tail) ≡ true → (tail ≡ back) ⊎ LeavesOutLast back tail

pub starts : (suffices : List Bool → Bool) (n : ℕ) → suffices (everything n) ≡ true → Choosing suffices n n (everything n)
starts suffices n h = record {
  back = [];
  shape = sym (append-nil (replicate n true));
  total = omega arith;
  sufficient = h;
  decided = λ front tail e f g. inl (nil_from_length tail f);
}

pub ends : (suffices : List Bool → Bool) (n : ℕ) (chosen : List Bool) → Choosing suffices n 0 chosen → IsLeast suffices n chosen
ends suffices n chosen c =
    let same : chosen ≡ c.back = c.shape in
    let each : length chosen ≡ n = omega (arith, ap length same, c.total) in
    record {
      each_member = each;
      sufficient = c.sufficient;
      leaves_out = λ other e f ne.
          elim (c.decided [] other refl (e ∙ sym each ∙ ap length same) f) [
            | inl x ↦ absurd (ne (x ∙ sym same))
            | inr y ↦ subst (λ (z : List Bool). LeavesOutLast z other) (sym same) y
          ];
    }

-- the member at k, which was chosen for the time being
here : (k : ℕ) (back : List Bool) (chosen : List Bool) → chosen ≡ replicate (k + 1) true ++ back → chosen ≡ replicate k true ++ true ∷ back
here k back chosen e = e ∙ ap (λ (z : List Bool). z ++ back) (sym (replicate_more k true)) ∙ append_assoc (replicate k true) (true ∷ []) back

pub set_here : (k : ℕ) (back chosen : List Bool) (b : Bool) → chosen ≡ replicate (k + 1) true ++ back → set chosen k b ≡ replicate k true ++ b ∷ back
set_here k back chosen b e =
    ap (λ (z : List Bool). set z k b) (here k back chosen e) ∙ set_at (replicate k true) true back b k (length-replicate k true)

further : (a b : Bool) (back tail : List Bool) → LeavesOutLast back tail → LeavesOutLast (a ∷ back) (b ∷ tail)
further a b back tail (front, others, rest, e, p, q) =
    (a ∷ front, b ∷ others, rest, ap suc e, ap (λ (z : List Bool). a ∷ z) p, ap (λ (z : List Bool). b ∷ z) q)

-- what an earlier decision says of a selection whose member at k is b
earlier : (suffices : List Bool → Bool) (n k : ℕ) (chosen : List Bool) (c : Choosing suffices n (k + 1) chosen) (front : List Bool) (b : Bool) (tail : List Bool) → length front ≡ k → length (b ∷ tail) ≡ suc (length c.back) → suffices (front ++ b ∷ tail) ≡ true → (tail ≡ c.back) ⊎ LeavesOutLast c.back tail
earlier suffices n k chosen c front b tail e f g =
    c.decided (front ++ b ∷ []) tail (omega (arith, length-append front (b ∷ []), e)) (omega arith)
    (ap suffices (append_assoc front (b ∷ []) tail) ∙ g)

dropped_here : (back tail : List Bool) (b : Bool) → (tail ≡ back) ⊎ LeavesOutLast back tail → (b ∷ tail ≡ false ∷ back) ⊎ LeavesOutLast (false ∷ back) (b ∷ tail)
dropped_here back tail b (inr y) = inr (further false b back tail y)
dropped_here back tail false (inl x) = inl (ap (λ (z : List Bool). false ∷ z) x)
dropped_here back tail true (inl x) = inr ([], [], back, refl, refl, ap (λ (z : List Bool). true ∷ z) x)

kept_here : (back tail : List Bool) (b : Bool) → (b ≡ false → tail ≡ back → ⊥) → (tail ≡ back) ⊎ LeavesOutLast back tail → (b ∷ tail ≡ true ∷ back) ⊎ LeavesOutLast (true ∷ back) (b ∷ tail)
kept_here back tail b never (inr y) = inr (further true b back tail y)
kept_here back tail false never (inl x) = absurd (never refl x)
kept_here back tail true never (inl x) = inl (ap (λ (z : List Bool). true ∷ z) x)

pub drops : (suffices : List Bool → Bool) (n k : ℕ) (chosen : List Bool) → Choosing suffices n (k + 1) chosen → suffices (set chosen k false) ≡ true → Choosing suffices n k (set chosen k false)
drops suffices n k chosen c h = record {
  back = false ∷ c.back;
  shape = set_here k c.back chosen false c.shape;
  total = omega (arith, c.total);
  sufficient = h;
  decided = λ front tail e f g. elim tail as (λ (t : List Bool). length t ≡ suc (length c.back) → suffices (front ++ t) ≡ true → (t ≡ false ∷ c.back) ⊎ LeavesOutLast (false ∷ c.back) t) [
    | [] ↦ λ f g. absurd (omega arith)
    | b ∷ rest ↦ λ f g. dropped_here c.back rest b (earlier suffices n k chosen c front b rest e f g)
  ] f g;
}

pub keeps : (suffices : List Bool → Bool) (n k : ℕ) (chosen : List Bool)
    → ((some more : List Bool) → length some ≡ n → IsWithin some more → suffices some ≡ true → suffices more ≡ true)
    → Choosing suffices n (k + 1) chosen → suffices (set chosen k false) ≡ false → Choosing suffices n k (set (set chosen k false) k true)
keeps suffices n k chosen grows c h =
    let again : set (set chosen k false) k true ≡ replicate k true ++ true ∷ c.back =
    ap (λ (z : List Bool). set z k true) (set_here k c.back chosen false c.shape) ∙ set_at (replicate k true) false c.back true k (length-replicate k true) in
    let same : set (set chosen k false) k true ≡ chosen = again ∙ sym (here k c.back chosen c.shape) in
    let never : (front tail : List Bool) → length front ≡ k → tail ≡ c.back → suffices (front ++ false ∷ tail) ≡ true → ⊥ =
    λ front tail e x g.
    let larger : suffices (replicate k true ++ false ∷ tail) ≡ true =
    grows (front ++ false ∷ tail) (replicate k true ++ false ∷ tail)
    (omega (arith, length-append front (false ∷ tail), ap length x, c.total, e))
    (within_whole front k (false ∷ tail) e) g in
    let there : set chosen k false ≡ replicate k true ++ false ∷ tail =
    set_here k c.back chosen false c.shape ∙ ap (λ (z : List Bool). replicate k true ++ false ∷ z) (sym x) in
    let both : true ≡ false = sym larger ∙ sym (ap suffices there) ∙ h in
    cc in
    record {
      back = true ∷ c.back;
      shape = again;
      total = omega (arith, c.total);
      sufficient = ap suffices same ∙ c.sufficient;
      decided = λ front tail e f g. elim tail as (λ (t : List Bool). length t ≡ suc (length c.back) → suffices (front ++ t) ≡ true → (t ≡ true ∷ c.back) ⊎ LeavesOutLast (true ∷ c.back) t) [
        | [] ↦ λ f g. absurd (omega arith)
        | b ∷ rest ↦ λ f g. kept_here c.back rest b (λ is_no x. never front rest e x (ap (λ (z : Bool). suffices (front ++ z ∷ rest)) (sym is_no) ∙ g)) (earlier suffices n k chosen c front b rest e f g)
      ] f g;
    }
