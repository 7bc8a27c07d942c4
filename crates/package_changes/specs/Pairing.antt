-- Which packages of two lists belong together.
use Rattle.std.specs.Prelude.{Bool, List, [], ◌∷◌, ◌++◌, Option, None, Some, map, if◌then◌else◌}
use Rattle.std.specs.Ordering.{is_eq}
use Rattle.package_changes.specs.declared.changes.likeness.Likeness.{Likeness}
use Rattle.package_changes.specs.declared.changes.likeness.Likeness.TheVariants.{Same, Version, License, Name}
use Rattle.package_changes.specs.Rows.{Row, ChangeRow, stayed, went, came}
use Rattle.package_changes.specs.Order.{front_cmp, row_cmp, change_cmp, in_order}

-- what belongs together, and what is left of either list
pub record Paired (X : Type 0) : Type 0 where
  pub pairs : List (X × X)
  pub old : List X
  pub new : List X

module _ {X : Type 0} where
  abbrev pub with_pair : X → X → Paired X → Paired X
  with_pair x y p = record { pairs = (x, y) ∷ p.pairs; old = p.old; new = p.new }

  abbrev pub with_old : X → Paired X → Paired X
  with_old x p = record { pairs = p.pairs; old = x ∷ p.old; new = p.new }

  abbrev pub with_new : X → Paired X → Paired X
  with_new y p = record { pairs = p.pairs; old = p.old; new = y ∷ p.new }

  -- the first that was found, where one stands before all others
  abbrev pub behind : X → Option (X × List X) → Option (X × List X)
  behind y None = None
  behind y (Some found) = Some (found.0, y ∷ found.1)

  -- go on with the others, where one was found
  abbrev pub beside : X → List X → Option (X × List X) → (List X → Paired X) → Paired X
  beside x ys None others = with_old x (others ys)
  beside x ys (Some found) others = with_pair x found.0 (others found.1)

module _ {X : Type 0} (like : X → X → Bool) where
  -- the first that is like x, and the others
  abbrev pub first_like : X → List X → Option (X × List X)
  first_like x [] = None
  first_like x (y ∷ ys) = if like x y then Some (y, ys) else behind y (first_like x ys)

  -- each old one belongs to the first new one that is like it and belongs to no earlier one
  abbrev pub pair_all : List X → List X → Paired X
  pair_all [] ys = record { pairs = []; old = []; new = ys }
  pair_all (x ∷ xs) ys = beside x ys (first_like x ys) (λ others. pair_all xs others)

-- the same is asked of two packages
abbrev pub is_like : Likeness → Row → Row → Bool
is_like l x y = is_eq (front_cmp l x y)

-- of what is left, in order, those that are so alike belong together
abbrev pub paired_by : Likeness → Paired Row → Paired Row
paired_by l p = pair_all (is_like l) (in_order (row_cmp l) p.old) (in_order (row_cmp l) p.new)

abbrev pub step : Likeness → Paired Row → Paired Row
step l p = record {
  pairs = p.pairs ++ (paired_by l p).pairs;
  old = (paired_by l p).old;
  new = (paired_by l p).new;
}

abbrev pub unpaired : List Row → List Row → Paired Row
unpaired old new = record { pairs = []; old = old; new = new }

-- first those that are the same, then those of one name and version, then those of one name and
-- licence, then those of one name
abbrev pub paired : List Row → List Row → Paired Row
paired old new = step Name (step License (step Version (step Same (unpaired old new))))

abbrev pub stayed_of : Row × Row → ChangeRow
stayed_of pair = stayed pair.0 pair.1

abbrev pub told : Paired Row → List ChangeRow
told p = map stayed_of p.pairs ++ (map went p.old ++ map came p.new)

abbrev pub changes : List Row → List Row → List ChangeRow
changes old new = in_order change_cmp (told (paired old new))
