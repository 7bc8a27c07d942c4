-- What stands between newlines are the lines, and what stands behind the last newline.
use Rattle.std.proofs.Common.{◌≡◌, ℕ, nat_eq, true, false, cond, List, [], ◌∷◌, ◌++◌, refl, ap, ◌∙◌}
use Rattle.std.specs.Prelude.{◌==◌}
use Rattle.std.specs.List.{slice_split}
use Rattle.std.specs.List as std
use Rattle.line_engine.specs.Lines.{Cut, cut}
use Rattle.line_engine.specs.Lines as lines

abbrev all_in : Cut → List (List ℕ)
all_in c = c.whole ++ c.rest ∷ []

onto : (b : ℕ) (whole : List (List ℕ)) (rest : List ℕ) → std.onto_first b (whole ++ rest ∷ []) ≡ all_in (lines.onto_first b whole rest)
onto b [] rest = refl
onto b (line ∷ more) rest = refl

one_more : (b : ℕ) (c : Cut) → cond (nat_eq b 10) ([] ∷ all_in c) (std.onto_first b (all_in c)) ≡ all_in (cond (nat_eq b 10) (record { whole = [] ∷ c.whole; rest = c.rest }) (lines.onto_first b c.whole c.rest))
one_more b c =
    elim (nat_eq b 10) as (λ t. cond t ([] ∷ all_in c) (std.onto_first b (all_in c)) ≡ all_in (cond t (record { whole = [] ∷ c.whole; rest = c.rest }) (lines.onto_first b c.whole c.rest)))
    [ true ↦ refl | false ↦ onto b c.whole c.rest ]

pub pieces_are : (bytes : List ℕ) → slice_split (λ b. b == 10) bytes ≡ (cut bytes).whole ++ (cut bytes).rest ∷ []
pieces_are [] = refl
pieces_are (b ∷ bs) = ap (λ (ps : List (List ℕ)). cond (nat_eq b 10) ([] ∷ ps) (std.onto_first b ps)) (pieces_are bs) ∙ one_more b (cut bs)
