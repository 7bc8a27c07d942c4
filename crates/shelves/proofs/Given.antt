-- What is given of bytes, and what is left of them.
use Rattle.std.proofs.Common.{◌≡◌, ◌≤◌, ◌<◌, ◌-◌, ◌+◌, ℕ, List, [], ◌++◌, length, take, drop, min, ap, sym, ◌∙◌, subst, arith}
use Rattle.std.proofs.Math.Seq.{take-append_seam}
use Rattle.std.proofs.lemmas.List.{drop-drop, drop_all, length-append, length-drop, length-take-le, take-append-drop, take-take}

-- the bytes that are left
abbrev left : List ℕ → ℕ → List ℕ
left bytes given = take (length bytes - given) (drop given bytes)

pub gives : (bytes others new : List ℕ) (given n : ℕ) → new ≡ take n (left bytes given) → n ≤ length bytes - given
    → drop given bytes ≡ take n (new ++ others) ++ drop (given + n) bytes
gives bytes others new given n e h =
    let rest = drop given bytes in
    let is_new : new ≡ take n rest = e ∙ take-take n (length bytes - given) rest h in
    let long : length rest ≡ length bytes - given = length-drop given bytes in
    let all : length new ≡ n = ap length is_new ∙ length-take-le n rest (omega arith) in
    let front : take n (new ++ others) ≡ new = subst (λ k. take k (new ++ others) ≡ new) all (take-append_seam new others) in
    sym (take-append-drop n rest)
    ∙ ap (λ xs. xs ++ drop n rest) (sym is_new ∙ sym front)
    ∙ ap (λ xs. take n (new ++ others) ++ xs) (drop-drop n given bytes)

-- none only where none are left, or nobody has room for them
pub ends : (bytes buffer new : List ℕ) (given n : ℕ) → n ≡ min (length buffer) (length (left bytes given)) → length new ≡ n → n ≡ 0
    → 0 < length (new ++ drop n buffer) → drop (given + n) bytes ≡ []
ends bytes buffer new given n e long none some =
    let rest : length (drop given bytes) ≡ length bytes - given = length-drop given bytes in
    let lefts : length (left bytes given) ≡ length bytes - given = length-take-le (length bytes - given) (drop given bytes) (omega arith) in
    let both : length (new ++ drop n buffer) ≡ length new + length (drop n buffer) = length-append new (drop n buffer) in
    let room : length (drop n buffer) ≡ length buffer - n = length-drop n buffer in
    drop_all (given + n) bytes (omega arith)
