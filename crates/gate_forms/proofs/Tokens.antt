-- The tokens of lists of leaves.
use Rattle.std.proofs.Common.{◌≡◌, ℕ, List, [], ◌∷◌, ◌++◌, map, take, length, ◌≤◌, refl, ap}
use Rattle.std.proofs.lemmas.List.{take_all}
use Rattle.json.specs.Token.{Token}
use Rattle.json.specs.Tree.{items_tokens}
use Rattle.gate_forms.specs.declared.reports.Leaf.{Leaf}
use Rattle.gate_forms.specs.Json.{leaf_texts}

leaf_tokens : (leaves : List Leaf) → map (λ (x : Leaf). Token.string x.text.now) leaves ++ Token.end_array ∷ [] ≡ items_tokens (leaf_texts leaves)
leaf_tokens [] = refl
leaf_tokens (leaf ∷ leaves) = ap (λ (ts : List Token). Token.string leaf.text.now ∷ ts) (leaf_tokens leaves)

pub leaf_tokens_all : (leaves : List Leaf) (n : ℕ) → length leaves ≤ n → map (λ (x : Leaf). Token.string x.text.now) (take n leaves) ++ Token.end_array ∷ [] ≡ items_tokens (leaf_texts leaves)
leaf_tokens_all leaves n all = rw (take_all n leaves all) (leaf_tokens leaves)
