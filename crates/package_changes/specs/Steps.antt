-- What the program has found so far. Only private clauses cite it.
use Rattle.std.specs.Prelude.{◌≡◌, false, List, [], ◌∷◌, ◌++◌, map}
use Rattle.std.specs.List.{AllByRecursion}
use Rattle.std.specs.declared.cmp.Ordering.{Ordering}
use Rattle.std.specs.Ordering.{is_gt}
use Rattle.package_changes.specs.declared.changes.pairing.Pair.{Pair}
use Rattle.package_changes.specs.declared.changes.pairing.Pairing.{Pairing}
use Rattle.package_changes.specs.Rows.{Row, row_of}
use Rattle.package_changes.specs.Pairing.{Paired}

-- none is more than a later one
abbrev pub Rises : {X : Type 0} → (X → X → Ordering) → List X → Type 0
Rises cmp [] = Unit {0}
Rises cmp (x ∷ xs) = AllByRecursion (λ y. is_gt (cmp x y) ≡ false) xs × Rises cmp xs

abbrev pub pair_of : Pair → Row × Row
pair_of p = (row_of p.old, row_of p.new)

abbrev pub paired_of : Pairing → Paired Row
paired_of p = record {
  pairs = map pair_of p.pairs.items;
  old = map row_of p.old.items;
  new = map row_of p.new.items;
}

-- what was found, and behind it what is found of the rest
abbrev pub before : {X : Type 0} → Paired X → Paired X → Paired X
before p q = record { pairs = p.pairs ++ q.pairs; old = p.old ++ q.old; new = p.new ++ q.new }
