-- All records of a text: what a reader gives, one after the other, is the list that the function says.
use Rattle.std.proofs.Common.{◌≡◌, ◌+◌, ◌≤◌, ℕ, zero, suc, List, [], ◌∷◌, ◌++◌, length, Option, Some, None, Bool, true, false, cond, refl, sym, arith}
use Rattle.std.specs.Prelude.{IfSome}
use Rattle.csv.specs.Machine.{Read, ends_at_end, next_record, is_end, step, fields_after, field_after}
use Rattle.csv.specs.Reading.{AreRecords, Reached, records, records_from}
use Rattle.csv.specs.declared.parser.Config.{Config}
use Rattle.csv.specs.declared.parser.State.{State}
use Rattle.csv.specs.declared.parser.State.TheVariants as st

-- what the end of a text ends
abbrev the_last : List (List ℕ) → List ℕ → Read
the_last fields field = (fields ++ (field ∷ []), st.StartRecord, [])

longer : (o : Option Read) (n : ℕ) → IfSome o (λ p. length p.2 ≤ n) → IfSome o (λ p. length p.2 ≤ suc n)
longer None n h = tt
longer (Some p) n h = omega arith

-- the rest behind a record is no longer than the text
rest_within : (cfg : Config) (s : State) (fields : List (List ℕ)) (field xs : List ℕ)
    → IfSome (next_record cfg s fields field xs) (λ p. length p.2 ≤ length xs)
unfolding next_record
rest_within cfg s fields field [] = by (ends_at_end s)
  where
    by : (b : Bool) → IfSome (cond b (Some (the_last fields field)) None) (λ p. length p.2 ≤ 0)
    by true = omega arith
    by false = tt
rest_within cfg s fields field (c ∷ xs) =
    by (is_end (step cfg s c).1) (rest_within cfg (step cfg s c).0 (fields_after (step cfg s c).1 fields field) (field_after (step cfg s c).1 c field) xs)
  where
    by : (b : Bool)
        → IfSome (next_record cfg (step cfg s c).0 (fields_after (step cfg s c).1 fields field) (field_after (step cfg s c).1 c field) xs) (λ p. length p.2 ≤ length xs)
        → IfSome (cond b (Some (fields_after (step cfg s c).1 fields field, (step cfg s c).0, xs))
        (next_record cfg (step cfg s c).0 (fields_after (step cfg s c).1 fields field) (field_after (step cfg s c).1 c field) xs))
        (λ p. length p.2 ≤ suc (length xs))
    by true more = omega arith
    by false more = longer _ (length xs) more

-- and shorter, if the text has a byte
rest_shorter : (cfg : Config) (s : State) (fields : List (List ℕ)) (field : List ℕ) (c : ℕ) (xs : List ℕ)
    → IfSome (next_record cfg s fields field (c ∷ xs)) (λ p. length p.2 ≤ length xs)
unfolding next_record
rest_shorter cfg s fields field c xs = by (is_end (step cfg s c).1)
  where
    by : (b : Bool) → IfSome (cond b (Some (fields_after (step cfg s c).1 fields field, (step cfg s c).0, xs))
        (next_record cfg (step cfg s c).0 (fields_after (step cfg s c).1 fields field) (field_after (step cfg s c).1 c field) xs))
        (λ p. length p.2 ≤ length xs)
    by true = omega arith
    by false = rest_within cfg (step cfg s c).0 _ _ xs

-- the end of a text gives one record at most
last_one : (cfg : Config) (s : State) → IfSome (next_record cfg s [] [] []) (λ p. (p.1 ≡ st.StartRecord) × (p.2 ≡ []))
unfolding next_record
last_one cfg s = by (ends_at_end s)
  where
    by : (b : Bool) → IfSome (cond b (Some (the_last [] [])) None) (λ p. (p.1 ≡ st.StartRecord) × (p.2 ≡ []))
    by true = (refl, refl)
    by false = tt

none_behind : (cfg : Config) (rows : List (List (List ℕ))) (s2 : State) (ys : List ℕ) → Reached cfg st.StartRecord [] rows s2 ys → rows ≡ []
unfolding next_record Reached
none_behind cfg [] s2 ys h = refl
none_behind cfg (r ∷ rs) s2 ys h = cc h.1

-- there are no more records than bytes, and one
few : (cfg : Config) (s : State) (xs : List ℕ) (rows : List (List (List ℕ))) (s2 : State) (ys : List ℕ)
    → Reached cfg s xs rows s2 ys → length rows ≤ length xs + 1
unfolding Reached
few cfg s xs [] s2 ys h = omega arith
few cfg s [] (r ∷ rs) s2 ys h =
    let end = rw h.1 at (last_one cfg s) in
    let none : rs ≡ [] = none_behind cfg rs s2 ys (rw (end.0, end.1) at h.3) in
    rw none (omega arith)
few cfg s (c ∷ xs) (r ∷ rs) s2 ys h =
    let rest = rw h.1 at (rest_shorter cfg s [] [] c xs) in
    let more = few cfg h.0.1 h.0.2 rs s2 ys h.3 in
    omega arith

all_from : (cfg : Config) (n : ℕ) (s : State) (xs : List ℕ) (rows : List (List (List ℕ))) (s2 : State) (ys : List ℕ)
    → length rows ≤ n → Reached cfg s xs rows s2 ys → next_record cfg s2 [] [] ys ≡ None → records_from cfg n s xs ≡ rows
unfolding Reached records_from
all_from cfg zero s xs [] s2 ys few h e = refl
all_from cfg zero s xs (r ∷ rs) s2 ys few h e = absurd (omega arith)
all_from cfg (suc n) s xs [] s2 ys few h e = rw (h.0, h.1, e) refl
all_from cfg (suc n) s xs (r ∷ rs) s2 ys few h e =
    let more = all_from cfg n h.0.1 h.0.2 rs s2 ys (omega arith) h.3 e in
    rw (h.1, h.2, more) refl

pub all_records : (cfg : Config) (xs : List ℕ) (rows : List (List (List ℕ))) → AreRecords cfg st.StartRecord xs rows → rows ≡ records cfg xs
all_records cfg xs rows h =
    let all = all_from cfg (length xs + 1) st.StartRecord xs rows h.0 h.1 (few cfg st.StartRecord xs rows h.0 h.1 h.2) h.2 h.3 in
    sym all
