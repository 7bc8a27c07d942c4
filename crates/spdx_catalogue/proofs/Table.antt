-- The rules of all rows, in turn and by their places, and the first that is broken of them.
use Rattle.std.proofs.Common.{◌≡◌, ℕ, zero, suc, ◌+◌, Bool, true, false, cond, List, [], ◌∷◌, ◌++◌, length, Option, Some, None, find, refl, sym, ◌∙◌, ap, subst, arith, append_assoc, append-nil}
use Rattle.std.specs.Prelude.{slice_get, option_map}
use Rattle.std.specs.Option.{option_map_or}
use Rattle.spdx_requirement.specs.Rows.{Rows, LicenseRow, ExceptionRow, license_name, exception_name}
use Rattle.spdx_catalogue.specs.RowRules.{RowRule, license_row_rules, exception_row_rules, imprecise_row_rules, rules_from, rules_of, first_fault}
use Rattle.spdx_catalogue.specs.RowChecks.{first_broken, all_below, rules_at, imprecise_rules}

-- the rules of the licence of that row
abbrev pub license_rules : List LicenseRow → ℕ → List RowRule
license_rules rows row = rules_at license_name license_row_rules rows row

-- those of the exception of that row
abbrev pub exception_rules : List ExceptionRow → ℕ → List RowRule
exception_rules rows row = rules_at exception_name exception_row_rules rows row

module _ {A : Type 0} (rules : Option A → ℕ → A → List RowRule) where
  -- the row before one of these, which stand behind a row, if there is one
  abbrev pub row_before : Option A → List A → ℕ → Option A
  row_before p xs zero = p
  row_before p xs (suc i) = slice_get xs i

  -- f gives the rules of each of these rows, which stand at a place and behind a row, if there is one
  abbrev IsOf : (ℕ → List RowRule) → Option A → ℕ → List A → Type 0
  IsOf f p k xs = (i n : ℕ) → n ≡ k + i → f n ≡ option_map_or (rules (row_before p xs i) n) (slice_get xs i) []

  behind : (f : ℕ → List RowRule) (p : Option A) (k : ℕ) (x : A) (xs : List A) → IsOf f p k (x ∷ xs) → IsOf f (Some x) (suc k) xs
  behind f p k x xs h zero n e = h (suc zero) n (omega arith)
  behind f p k x xs h (suc i) n e = h (suc (suc i)) n (omega arith)

  each_row : (f : ℕ → List RowRule) (p : Option A) (k : ℕ) (xs : List A) → IsOf f p k xs → all_below f k ++ rules_from rules p k xs ≡ all_below f (k + length xs)
  each_row f p k [] h = let same : k ≡ k + 0 = omega arith in append-nil (all_below f k) ∙ ap (all_below f) same
  each_row f p k (x ∷ xs) h =
      let here : f k ≡ rules p k x = h zero k (omega arith) in
      let more : List RowRule = rules_from rules (Some x) (suc k) xs in
      let same : suc k + length xs ≡ k + suc (length xs) = omega arith in
      sym (append_assoc (all_below f k) (rules p k x) more)
      ∙ ap (λ (l : List RowRule). (all_below f k ++ l) ++ more) (sym here)
      ∙ each_row f (Some x) (suc k) xs (behind f p k x xs h)
      ∙ ap (all_below f) same

  in_turn : (f : ℕ → List RowRule) (xs : List A) → ((i : ℕ) → f i ≡ option_map_or (rules (row_before None xs i) i) (slice_get xs i) []) → rules_from rules None 0 xs ≡ all_below f (length xs)
  in_turn f xs h =
      let same : 0 + length xs ≡ length xs = omega arith in
      let each : IsOf f None 0 xs = λ i n e. let here : n ≡ i = omega arith in subst (λ (m : ℕ). f m ≡ option_map_or (rules (row_before None xs i) m) (slice_get xs i) []) (sym here) (h i) in
      each_row f None 0 xs each ∙ ap (all_below f) same

named_rows : {A : Type 0} (name : A → List ℕ) (rules : Option (List ℕ) → ℕ → A → List RowRule) (xs : List A) → rules_from (λ before. rules (option_map name before)) None 0 xs ≡ all_below (rules_at name rules xs) (length xs)
named_rows {A} name rules xs = in_turn (λ before. rules (option_map name before)) (rules_at name rules xs) xs each
  where
    each : (i : ℕ) → rules_at name rules xs i ≡ option_map_or (rules (option_map name (row_before (λ before. rules (option_map name before)) None xs i)) i) (slice_get xs i) []
    each zero = refl
    each (suc i) = refl

first_is : (rs : List RowRule) → option_map (λ (r : RowRule). r.1) (find (λ (r : RowRule). r.0) rs) ≡ first_broken rs
first_is [] = refl
first_is (r ∷ rs) = pick r.0 (first_is rs)
  where
    pick : (b : Bool) → option_map (λ (r : RowRule). r.1) (find (λ (r : RowRule). r.0) rs) ≡ first_broken rs → option_map (λ (r : RowRule). r.1) (cond b (Some r) (find (λ (r : RowRule). r.0) rs)) ≡ cond b (Some r.1) (first_broken rs)
    pick true rest = refl
    pick false rest = rest

-- the first fault is that of the rows by their places
pub fault_is : (c : Rows) → first_fault c ≡ first_broken (all_below (license_rules c.licenses) (length c.licenses) ++ (all_below (exception_rules c.exceptions) (length c.exceptions) ++ all_below (imprecise_rules c.licenses c.imprecise) (length c.imprecise)))
fault_is c =
    let names = all_below (license_rules c.licenses) (length c.licenses) in
    let excepted = all_below (exception_rules c.exceptions) (length c.exceptions) in
    let of_exceptions : List RowRule = rules_from (λ before. exception_row_rules (option_map exception_name before)) None 0 c.exceptions in
    let spelled : List RowRule = rules_from (λ before. imprecise_row_rules c.licenses) None 0 c.imprecise in
    let table : rules_of c ≡ names ++ (excepted ++ all_below (imprecise_rules c.licenses c.imprecise) (length c.imprecise)) =
    ap (λ (l : List RowRule). l ++ (of_exceptions ++ spelled)) (named_rows license_name license_row_rules c.licenses)
    ∙ ap (λ (l : List RowRule). names ++ (l ++ spelled)) (named_rows exception_name exception_row_rules c.exceptions)
    ∙ ap (λ (l : List RowRule). names ++ (excepted ++ l)) (in_turn (λ before. imprecise_row_rules c.licenses) (imprecise_rules c.licenses c.imprecise) c.imprecise (λ i. refl)) in
    first_is (rules_of c) ∙ ap first_broken table
