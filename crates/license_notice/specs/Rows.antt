-- Which package stands under which requirement, and the order of a page.
use Rattle.std.specs.Prelude.{ℕ, List, map, flat_map}
use Rattle.std.specs.declared.cmp.Ordering.{Ordering}
use Rattle.std.specs.Ordering.{nat_cmp, ordering_then}
use Rattle.std.specs.Cmp.Lexicographic.{slice_cmp}

-- a package under a requirement
pub record Row : Type 0 where
  pub requirement : List ℕ
  pub name : List ℕ
  pub version : List ℕ

abbrev pub row : List ℕ → List ℕ → List ℕ → Row
row requirement name version = record { requirement = requirement; name = name; version = version }

-- the order of texts, byte by byte
abbrev pub text_cmp : List ℕ → List ℕ → Ordering
text_cmp x y = slice_cmp nat_cmp x y

-- by requirement, then by name, then by version
abbrev pub row_cmp : Row → Row → Ordering
row_cmp x y =
    ordering_then (text_cmp x.requirement y.requirement)
    (ordering_then (text_cmp x.name y.name) (text_cmp x.version y.version))

-- a package as its group shows it
pub record Line : Type 0 where
  pub name : List ℕ
  pub version : List ℕ

-- a requirement, and the packages that stand under it
pub record Band : Type 0 where
  pub requirement : List ℕ
  pub lines : List Line

abbrev pub rows_in : Band → List Row
rows_in b = map (λ (l : Line). row b.requirement l.name l.version) b.lines

-- the rows of bands, from the first to the last
abbrev pub all_rows : List Band → List Row
all_rows bands = flat_map rows_in bands
