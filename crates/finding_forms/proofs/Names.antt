-- The names behind the first.
use Rattle.std.proofs.Common.{◌≡◌, ℕ, List, [], ◌∷◌, ◌++◌, map, flat_map, take, length, ◌≤◌, codes, refl, ap, ◌∙◌, append_assoc}
use Rattle.std.proofs.lemmas.List.{take_all}
use Rattle.std.specs.Borrow.{Bor}
use Rattle.foreign_text.specs.declared.sinks.Sink.{Sink}
use Rattle.finding_forms.specs.Message.{named, other_names}

-- a comma, and the name
abbrev pub listed : Sink → Bor (List ℕ) → List ℕ
listed how x = codes ", " ++ named how x.now

front_and_last : (how : Sink) (front : List (Bor (List ℕ))) (last : Bor (List ℕ)) → flat_map (listed how) front ++ (codes " or " ++ named how last.now) ≡ other_names how (map (λ (x : Bor (List ℕ)). x.now) (front ++ last ∷ []))
front_and_last how [] last = refl
front_and_last how (x ∷ []) last = append_assoc (listed how x) [] _
front_and_last how (x ∷ y ∷ front) last =
    append_assoc (listed how x) (flat_map (listed how) (y ∷ front)) _ ∙ ap (λ (text : List ℕ). listed how x ++ text) (front_and_last how (y ∷ front) last)

pub others_written : (how : Sink) (front : List (Bor (List ℕ))) (last : Bor (List ℕ)) (n : ℕ) (old : List ℕ) → length front ≤ n → ((old ++ flat_map (listed how) (take n front)) ++ codes " or ") ++ named how last.now ≡ old ++ other_names how (map (λ (x : Bor (List ℕ)). x.now) (front ++ last ∷ []))
others_written how front last n old all =
    let commas = flat_map (listed how) front in
    rw (take_all n front all)
    (append_assoc (old ++ commas) (codes " or ") (named how last.now) ∙ append_assoc old commas (codes " or " ++ named how last.now) ∙ ap (λ (text : List ℕ). old ++ text) (front_and_last how front last))

pub in_a_row : (a b c d e : List ℕ) → (((a ++ b) ++ c) ++ d) ++ e ≡ a ++ (b ++ (c ++ (d ++ e)))
in_a_row a b c d e = simp append_assoc
