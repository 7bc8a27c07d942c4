-- The choices of some expressions, place by place.
use Rattle.std.proofs.Common.{◌≡◌, ℕ, ◌+◌, ◌<◌, Bool, ◌||◌, cond, List, [], ◌∷◌, ◌++◌, Some, length, take, map, get_or, refl, sym, ◌∙◌, ap, arith}
use Rattle.std.specs.Prelude.{slice_get}
use Rattle.std.specs.List.{filter, list_any}
use Rattle.std.proofs.lemmas.List.{length-map, map-append, take_more, get_or-map}
use Rattle.std.proofs.lemmas.List.Elements.{filter_more}
use Rattle.std.proofs.lemmas.Option.{slice_get-get_or}
use denote.Ref.{Bor}
use Rattle.spdx_requirement.specs.Items.{Requirement}
use Rattle.spdx_parser.specs.Tree.{Tree}
use Rattle.spdx_minimize.specs.Choice.{Choice, chosen}
use Rattle.spdx.specs.Value.{Written, trees_of}

module _ (own : Tree → Choice) (es : List (Bor Written)) (i : ℕ) (d : Bor Written) (lt : i < length es) where
  in_choices : i < length (map own (trees_of es))
  in_choices = omega (arith, lt, length-map (trees_of es) own, length-map es (λ (e : Bor Written). e.now.tree))

  at_place : get_or (map own (trees_of es)) i (own d.now.tree) ≡ own (get_or es i d).now.tree
  at_place =
      let in_trees : i < length (trees_of es) = omega (arith, lt, length-map es (λ (e : Bor Written). e.now.tree)) in
      get_or-map own (trees_of es) i d.now.tree (own d.now.tree) in_trees
      ∙ ap own (get_or-map (λ (e : Bor Written). e.now.tree) es i d d.now.tree lt)

  -- one choice more is there
  pub one_more : (old : List (List Requirement)) (rs : List Requirement) → take i (map own (trees_of es)) ≡ map chosen old → own (get_or es i d).now.tree ≡ chosen rs
      → take (i + 1) (map own (trees_of es)) ≡ map chosen (old ++ rs ∷ [])
  one_more old rs before here =
      take_more (map own (trees_of es)) i (own d.now.tree) in_choices
      ∙ ap (λ (z : List Choice). z ++ get_or (map own (trees_of es)) i (own d.now.tree) ∷ []) before
      ∙ ap (λ (z : Choice). map chosen old ++ z ∷ []) (at_place ∙ here)
      ∙ sym (map-append chosen old (rs ∷ []))

  -- the choice at a place
  pub one_choice : (c : Choice) → own (get_or es i d).now.tree ≡ c → slice_get (map own (trees_of es)) i ≡ Some c
  one_choice c here = slice_get-get_or (map own (trees_of es)) i (own d.now.tree) in_choices ∙ ap Some (at_place ∙ here)

-- one element more is kept or not
pub kept_more : (p : Requirement → Bool) (xs : List Requirement) (i : ℕ) (d : Requirement) (b : Bool) (old new : List Requirement)
    → i < length xs → p (get_or xs i d) ≡ b → old ≡ filter p (take i xs) → new ≡ old ++ cond b (get_or xs i d ∷ []) [] → new ≡ filter p (take (i + 1) xs)
kept_more p xs i d b old new lt is before made =
    made
    ∙ ap (λ (z : List Requirement). z ++ cond b (get_or xs i d ∷ []) []) before
    ∙ ap (λ (z : Bool). filter p (take i xs) ++ cond z (get_or xs i d ∷ []) []) (sym is)
    ∙ sym (filter_more p xs i d lt)

-- a test of what the elements hold
pub any_in_map : {A B : Type 0} (p : B → Bool) (f : A → B) (xs : List A) → list_any p (map f xs) ≡ list_any (λ x. p (f x)) xs
any_in_map p f [] = refl
any_in_map p f (x ∷ xs) = ap (λ (b : Bool). p (f x) || b) (any_in_map p f xs)
