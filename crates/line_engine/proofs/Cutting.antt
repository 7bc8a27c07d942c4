-- What one more byte, and more bytes, do to a cut.
use Rattle.std.proofs.Common.{◌≡◌, ℕ, nat_eq, true, false, cond, List, [], ◌∷◌, ◌++◌, refl, sym, ap, ◌∙◌, subst}
use Rattle.std.proofs.Common.{◌≢◌, append_assoc, append-nil, arith}
use Rattle.std.proofs.lemmas.List.Elements.{All-head, All-tail}
use Rattle.line_engine.specs.Lines.{Cut, cut, onto_first, HasNoNewline}
use Rattle.line_engine.proofs.Byte.{before_cut}

-- a newline ends the rest
abbrev pub end_line : Cut → Cut
end_line c = record { whole = c.whole ++ c.rest ∷ []; rest = [] }

-- another byte goes behind the rest
abbrev pub add_byte : ℕ → Cut → Cut
add_byte b c = record { whole = c.whole; rest = c.rest ++ b ∷ [] }

onto-end_line : (b : ℕ) (whole : List (List ℕ)) (rest : List ℕ) → onto_first b (whole ++ rest ∷ []) [] ≡ end_line (onto_first b whole rest)
onto-end_line b [] rest = refl
onto-end_line b (line ∷ lines) rest = refl

onto-add_byte : (b x : ℕ) (whole : List (List ℕ)) (rest : List ℕ) → onto_first b whole (rest ++ x ∷ []) ≡ add_byte x (onto_first b whole rest)
onto-add_byte b x [] rest = refl
onto-add_byte b x (line ∷ lines) rest = refl

before-end_line : (b : ℕ) (c : Cut) → before_cut b (end_line c) ≡ end_line (before_cut b c)
before-end_line b c =
    elim (nat_eq b 10) as (λ t. (cond t (record { whole = [] ∷ (c.whole ++ c.rest ∷ []); rest = [] }) (onto_first b (c.whole ++ c.rest ∷ []) [])) ≡ end_line (cond t (record { whole = [] ∷ c.whole; rest = c.rest }) (onto_first b c.whole c.rest)))
    [ true ↦ refl | false ↦ onto-end_line b c.whole c.rest ]

before-add_byte : (b x : ℕ) (c : Cut) → before_cut b (add_byte x c) ≡ add_byte x (before_cut b c)
before-add_byte b x c =
    elim (nat_eq b 10) as (λ t. (cond t (record { whole = [] ∷ c.whole; rest = c.rest ++ x ∷ [] }) (onto_first b c.whole (c.rest ++ x ∷ []))) ≡ add_byte x (cond t (record { whole = [] ∷ c.whole; rest = c.rest }) (onto_first b c.whole c.rest)))
    [ true ↦ refl | false ↦ onto-add_byte b x c.whole c.rest ]

pub cut-newline : (bytes : List ℕ) → cut (bytes ++ 10 ∷ []) ≡ end_line (cut bytes)
cut-newline [] = refl
cut-newline (b ∷ bs) = ap (before_cut b) (cut-newline bs) ∙ before-end_line b (cut bs)

cut-one : (x : ℕ) → x ≢ 10 → cut (x ∷ []) ≡ add_byte x (cut [])
cut-one x n = let f : nat_eq x 10 ≡ false = grind arith in rw f refl

cut-byte : (bytes : List ℕ) (x : ℕ) → x ≢ 10 → cut (bytes ++ x ∷ []) ≡ add_byte x (cut bytes)
cut-byte [] x n = cut-one x n
cut-byte (b ∷ bs) x n = ap (before_cut b) (cut-byte bs x n) ∙ before-add_byte b x (cut bs)

-- bytes without a newline go behind the rest
pub cut-plain : (bytes xs : List ℕ) → HasNoNewline xs → cut (bytes ++ xs) ≡ record { whole = (cut bytes).whole; rest = (cut bytes).rest ++ xs }
cut-plain bytes [] n = ap cut (append-nil bytes) ∙ ap (λ (rest : List ℕ). record { whole = (cut bytes).whole; rest = rest }) (sym (append-nil (cut bytes).rest))
cut-plain bytes (x ∷ xs) n =
    let IsOther : ℕ → Type 0 = λ b. b ≢ 10 in
    let e : (cut (bytes ++ x ∷ [])) ≡ add_byte x (cut bytes) = cut-byte bytes x (All-head IsOther x xs n) in
    ap cut (sym (append_assoc bytes (x ∷ []) xs))
    ∙ cut-plain (bytes ++ x ∷ []) xs (All-tail IsOther x xs n)
    ∙ ap (λ (c : Cut). record { whole = c.whole; rest = c.rest ++ xs }) e
    ∙ ap (λ (rest : List ℕ). record { whole = (cut bytes).whole; rest = rest }) (append_assoc (cut bytes).rest (x ∷ []) xs)

-- the whole lines of bytes are a beginning of the whole lines of more
onto-more : (b : ℕ) (whole more : List (List ℕ)) (rest rest' : List ℕ) → (others : List (List ℕ)) × ((onto_first b (whole ++ more) rest').whole ≡ (onto_first b whole rest).whole ++ others)
onto-more b [] more rest rest' = ((onto_first b more rest').whole, refl)
onto-more b (line ∷ lines) more rest rest' = (more, refl)

before-more : (b : ℕ) (whole more : List (List ℕ)) (rest rest' : List ℕ) → (others : List (List ℕ)) × ((before_cut b (record { whole = whole ++ more; rest = rest' })).whole ≡ (before_cut b (record { whole = whole; rest = rest })).whole ++ others)
before-more b whole more rest rest' =
    elim (nat_eq b 10) as (λ t. (others : List (List ℕ)) × ((cond t (record { whole = [] ∷ (whole ++ more); rest = rest' }) (onto_first b (whole ++ more) rest')).whole ≡ (cond t (record { whole = [] ∷ whole; rest = rest }) (onto_first b whole rest)).whole ++ others))
    [ true ↦ (more, refl) | false ↦ onto-more b whole more rest rest' ]

pub cut-more : (xs ys : List ℕ) → (more : List (List ℕ)) × ((cut (xs ++ ys)).whole ≡ (cut xs).whole ++ more)
cut-more [] ys = ((cut ys).whole, refl)
cut-more (x ∷ xs) ys =
    let (more, e) = cut-more xs ys in
    let (others, f) = before-more x (cut xs).whole more (cut xs).rest (cut (xs ++ ys)).rest in
    (others, subst (λ (w : List (List ℕ)). (before_cut x (record { whole = w; rest = (cut (xs ++ ys)).rest })).whole ≡ (before_cut x (cut xs)).whole ++ others) (sym e) f)
