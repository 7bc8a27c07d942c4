-- Items of which each has a value, or a fault.
use Rattle.std.specs.Prelude.{List, [], ◌∷◌}

-- what was had of the items, and the faults of the others, each in their order
pub data AreHad {A B F : Type 0} (Is : A → B → Type 0) (IsNot : A → F → Type 0) :
    List A → List B → List F → Type 0 where
  none : AreHad Is IsNot [] [] []
  had : {x : A} {y : B} {xs : List A} {ys : List B} {fs : List F} →
      Is x y → AreHad Is IsNot xs ys fs → AreHad Is IsNot (x ∷ xs) (y ∷ ys) fs
  lacked : {x : A} {f : F} {xs : List A} {ys : List B} {fs : List F} →
      IsNot x f → AreHad Is IsNot xs ys fs → AreHad Is IsNot (x ∷ xs) ys (f ∷ fs)
