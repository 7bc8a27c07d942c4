-- How packages and changes are ordered.
use Rattle.std.specs.Prelude.{ℕ, List, [], ◌∷◌, if◌then◌else◌}
use Rattle.std.specs.declared.cmp.Ordering.{Ordering}
use Rattle.std.specs.declared.cmp.Ordering.TheVariants.{Equal}
use Rattle.std.specs.Ordering.{nat_cmp, ordering_then, is_gt}
use Rattle.std.specs.Cmp.Lexicographic.{slice_cmp}
use Rattle.package_changes.specs.declared.changes.likeness.Likeness.{Likeness}
use Rattle.package_changes.specs.declared.changes.likeness.Likeness.TheVariants.{Same, Version, License, Name}
use Rattle.package_changes.specs.Rows.{Row, ChangeRow, stayed, went, came}

-- the order of texts, byte by byte
abbrev pub text_cmp : List ℕ → List ℕ → Ordering
text_cmp x y = slice_cmp nat_cmp x y

-- by what has to be the same of two packages
abbrev pub front_cmp : Likeness → Row → Row → Ordering
front_cmp Same x y =
    ordering_then (text_cmp x.name y.name)
    (ordering_then (text_cmp x.version y.version) (text_cmp x.license y.license))
front_cmp Version x y = ordering_then (text_cmp x.name y.name) (text_cmp x.version y.version)
front_cmp License x y = ordering_then (text_cmp x.name y.name) (text_cmp x.license y.license)
front_cmp Name x y = text_cmp x.name y.name

-- by what else they say
abbrev pub rest_cmp : Likeness → Row → Row → Ordering
rest_cmp Same x y = Equal
rest_cmp Version x y = text_cmp x.license y.license
rest_cmp License x y = text_cmp x.version y.version
rest_cmp Name x y =
    ordering_then (text_cmp x.version y.version) (text_cmp x.license y.license)

abbrev pub row_cmp : Likeness → Row → Row → Ordering
row_cmp l x y = ordering_then (front_cmp l x y) (rest_cmp l x y)

-- the package as the older list has it, else as the newer one has it; and the other way round
abbrev pub old_end : ChangeRow → Row
old_end (stayed old new) = old
old_end (went old) = old
old_end (came new) = new

abbrev pub new_end : ChangeRow → Row
new_end (stayed old new) = new
new_end (went old) = old
new_end (came new) = new

-- of one name first those that stayed, then those that went
abbrev pub kind_of : ChangeRow → ℕ
kind_of (stayed old new) = 0
kind_of (went old) = 1
kind_of (came new) = 2

-- by name, by kind, then as the older and as the newer list has them
abbrev pub change_cmp : ChangeRow → ChangeRow → Ordering
change_cmp x y =
    ordering_then (text_cmp (old_end x).name (old_end y).name)
    (ordering_then (nat_cmp (kind_of x) (kind_of y))
    (ordering_then (row_cmp Same (old_end x) (old_end y))
    (row_cmp Same (new_end x) (new_end y))))

module _ {X : Type 0} (cmp : X → X → Ordering) where
  -- one more, at its place
  abbrev pub put : X → List X → List X
  put x [] = x ∷ []
  put x (y ∷ ys) = if is_gt (cmp x y) then y ∷ put x ys else x ∷ y ∷ ys

  abbrev pub in_order : List X → List X
  in_order [] = []
  in_order (x ∷ xs) = put x (in_order xs)
