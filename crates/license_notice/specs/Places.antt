-- The rows of a page the other way round: in which of some lists each package stands.
use Rattle.std.specs.Prelude.{◌≡◌, ◌↔◌, ℕ, ◌+◌, ◌<◌, Bool, ◌&&◌, List, [], ◌∷◌, ◌++◌, All, Contains, length, bytes_eq, flat_map, map, filter, if◌then◌else◌}
use Rattle.std.specs.List.{list_any}
use Rattle.std.specs.List.Sorted.{IsStrictlySortedBy}
use Rattle.std.specs.Ordering.{nat_cmp, ordering_then}
use Rattle.std.specs.declared.cmp.Ordering.{Ordering}
use Rattle.license_notice.specs.declared.packages.Release.{Release}
use Rattle.license_notice.specs.declared.places.Place.{Place}
use Rattle.license_notice.specs.declared.places.Places.{Places}
use Rattle.license_notice.specs.Notices.{line_of}
use Rattle.license_notice.specs.Once.{AreOnce, line_cmp}
use Rattle.license_notice.specs.Rows.{Line, Band, Row, row, all_rows}

-- one package: its name and its version
abbrev pub same_line : Line → Line → Bool
same_line x y = bytes_eq x.name y.name && bytes_eq x.version y.version

-- the package is among these
abbrev pub holds : List Line → Line → Bool
holds lines l = list_any (same_line l) lines

-- the numbers of those lists that hold the package, ascending, counted from n
abbrev pub numbers_from : ℕ → List (List Line) → Line → List ℕ
numbers_from n [] l = []
numbers_from n (ls ∷ lists) l = (if holds ls l then n ∷ [] else []) ++ numbers_from (n + 1) lists l

-- the packages of bands
abbrev pub lines_in : List Band → List Line
lines_in bands = flat_map (λ (b : Band). b.lines) bands

-- the requirements under which a package stands
abbrev pub bands_with : List Band → Line → List Band
bands_with bands l = filter (λ (b : Band). holds b.lines l) bands

abbrev pub rows_with : List Band → Line → List Row
rows_with bands l =
    map (λ (b : Band). row b.requirement l.name l.version) (bands_with bands l)

-- the packages of bands, ascending, each once: with their requirements they are just the rows of
-- the bands, and each has one
pub record AreByPackage (bands : List Band) (packages : List Line) : Type 0 where
  pub once : AreOnce (lines_in bands) packages
  pub rows : (r : Row) →
      Contains (flat_map (rows_with bands) packages) r ↔ Contains (all_rows bands) r
  pub none_empty : All (λ l. 0 < length (rows_with bands l)) packages

-- ---- as the program holds them. Only private clauses cite it.

-- by package, then by number
abbrev pub place_cmp : Place → Place → Ordering
place_cmp x y =
    ordering_then (line_cmp (line_of x.release) (line_of y.release)) (nat_cmp x.number y.number)

abbrev pub is_of : Line → Place → Bool
is_of l p = same_line (line_of p.release) l

-- places in order, those of each package being the lists that hold it
pub record ArePlaces (lists : List (List Line)) (places : Places) : Type 0 where
  pub ascend : IsStrictlySortedBy place_cmp places.rows.items
  pub each : (l : Line) →
      map (λ (p : Place). p.number) (filter (is_of l) places.rows.items) ≡ numbers_from 0 lists l

-- a package in a list of this number
abbrev pub place : ℕ → Release → Place
place n r = record { release = r; number = n }

-- each package in each list
abbrev pub places_from : ℕ → List (List Release) → List Place
places_from n [] = []
places_from n (rs ∷ lists) = map (place n) rs ++ places_from (n + 1) lists
