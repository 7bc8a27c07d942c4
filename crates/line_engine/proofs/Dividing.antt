-- The cut is a division at newlines.
use Rattle.std.proofs.Common.{◌≡◌, ◌≢◌, ℕ, nat_eq, Bool, true, false, cond, List, [], ◌∷◌, All, refl, sym, ap, ◌∙◌, arith}
use Rattle.std.proofs.lemmas.List.Elements.{All-nil, All-cons, All-head, All-tail}
use Rattle.line_engine.specs.Lines.{Cut, cut, onto_first, IsCut}
use Rattle.line_engine.proofs.Byte.{before_cut}

abbrev IsOther : ℕ → Type 0
IsOther b = b ≢ 10

test_false : (b : ℕ) → nat_eq b 10 ≡ false → b ≢ 10
test_false b t = grind arith

test_true : (b : ℕ) → nat_eq b 10 ≡ true → b ≡ 10
test_true b t = grind arith

onto_cut : (b : ℕ) (whole : List (List ℕ)) (rest bs : List ℕ) → b ≢ 10 → IsCut bs (record { whole = whole; rest = rest }) → IsCut (b ∷ bs) (onto_first b whole rest)
onto_cut b [] rest bs n h = record { whole = ap (λ (xs : List ℕ). b ∷ xs) h.whole; lines = All-nil (All IsOther); rest = All-cons IsOther b rest n h.rest }
onto_cut b (line ∷ lines) rest bs n h = record { whole = ap (λ (xs : List ℕ). b ∷ xs) h.whole; lines = All-cons (All IsOther) (b ∷ line) lines (All-cons IsOther b line n (All-head (All IsOther) line lines h.lines)) (All-tail (All IsOther) line lines h.lines); rest = h.rest }

before_is : (b : ℕ) (c : Cut) (bs : List ℕ) → IsCut bs c → IsCut (b ∷ bs) (before_cut b c)
before_is b c bs h =
    let split : (t : Bool) → nat_eq b 10 ≡ t → IsCut (b ∷ bs) (cond t (record { whole = [] ∷ c.whole; rest = c.rest }) (onto_first b c.whole c.rest)) =
    elim [
      | true ↦ λ e. record { whole = ap (λ (xs : List ℕ). 10 ∷ xs) h.whole ∙ ap (λ (x : ℕ). x ∷ bs) (sym (test_true b e)); lines = All-cons (All IsOther) [] c.whole (All-nil IsOther) h.lines; rest = h.rest }
      | false ↦ λ e. onto_cut b c.whole c.rest bs (test_false b e) h
    ] in
    split (nat_eq b 10) refl

pub cut_is : (bytes : List ℕ) → IsCut bytes (cut bytes)
cut_is [] = record { whole = refl; lines = All-nil (All IsOther); rest = All-nil IsOther }
cut_is (b ∷ bs) = before_is b (cut bs) bs (cut_is bs)
