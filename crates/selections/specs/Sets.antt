-- Sets of numbers, and lists of sets of which none includes another.
use Rattle.std.specs.Prelude.{◌≡◌, ℕ, ◌==◌, Bool, true, ◌&&◌, not, cond, List, [], ◌∷◌, ◌++◌, map, fold}
use Rattle.std.specs.Global.{Vec}
use Rattle.std.specs.List.{list_any, list_all, filter, flat_map, fold}

abbrev pub is_in : List ℕ → ℕ → Bool
is_in set k = list_any (λ x. x == k) set

-- whether a set has each number of another one
abbrev pub includes : List ℕ → List ℕ → Bool
includes set other = list_all (is_in set) other

-- whether it includes one of some sets
abbrev pub includes_some : List (List ℕ) → List ℕ → Bool
includes_some sets set = list_any (includes set) sets

-- those that include none of some sets
abbrev pub without : List (List ℕ) → List (List ℕ) → List (List ℕ)
without others sets = filter (λ s. not (includes_some others s)) sets

-- of the sets of two sides those that include none of the other side; of equal ones one stays
abbrev pub either : List (List ℕ) → List (List ℕ) → List (List ℕ)
either ls rs = without rs ls ++ without (without rs ls) rs

-- one set more, unless it includes one that is there; those that include it go
abbrev pub with_set : List (List ℕ) → List ℕ → List (List ℕ)
with_set sets s = cond (includes_some sets s) sets (filter (λ m. not (includes m s)) sets ++ s ∷ [])

-- whether one of some sets passes a test in each of its numbers
abbrev pub met_by : (ℕ → Bool) → List (List ℕ) → Bool
met_by p sets = list_any (list_all p) sets

-- each set of the one side with each of the other
abbrev pub unions : List (List ℕ) → List (List ℕ) → List (List ℕ)
unions ls rs = flat_map (λ l. map (λ r. r ++ l) rs) ls

-- the least of them
abbrev pub both : List (List ℕ) → List (List ℕ) → List (List ℕ)
both ls rs = fold with_set [] (unions ls rs)

-- neither includes the other
abbrev pub differ : List ℕ → List ℕ → Bool
differ s m = not (includes s m) && not (includes m s)

-- none of the sets includes another
abbrev pub AreApart : List (List ℕ) → Type 0
AreApart [] = Unit {0}
AreApart (s ∷ ss) = (list_all (differ s) ss ≡ true) × AreApart ss

-- the numbers that a list holds
abbrev pub set_of : Vec ℕ → List ℕ
set_of v = v.items

abbrev pub sets_in : List (Vec ℕ) → List (List ℕ)
sets_in vs = map set_of vs
