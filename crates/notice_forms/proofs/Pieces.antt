-- Pieces that are put one behind the other.
use Rattle.std.proofs.Common.{◌≡◌, List, ◌++◌, refl, ap, ◌∙◌, append_assoc}

-- behind the old bytes stand pieces, and the rest behind these
pub record Wrote {X : Type 0} (old now : List X) (pieces : List X → List X) : Type 0 where
  pub is : (rest : List X) → now ++ rest ≡ old ++ pieces rest

pub begun : {X : Type 0} (old : List X) → Wrote old old (λ rest. rest)
begun old = record { is = λ rest. refl }

pub written : {X : Type 0} {old was : List X} {pieces : List X → List X} → Wrote old was pieces → (more now : List X) → now ≡ was ++ more → Wrote old now (λ rest. pieces (more ++ rest))
written {X = X} {was = was} a more now b =
    record { is = λ rest. ap (λ (xs : List X). xs ++ rest) b ∙ append_assoc was more rest ∙ a.is (more ++ rest) }

pub ended : {X : Type 0} {old was : List X} {pieces : List X → List X} → Wrote old was pieces → (last now : List X) → now ≡ was ++ last → now ≡ old ++ pieces last
ended a last now b = b ∙ a.is last
