-- Values in a record.
use Rattle.std.proofs.Common.{◌≡◌, ◌<◌, ◌+◌, ℕ, zero, suc, List, [], ◌∷◌, ◌++◌, take, length, Some, None, option_map, Bor, refl, ap, sym, arith, map, true, false, Result, Ok, Err, append_assoc}
use Rattle.std.specs.List.{list_all, slice_get}
use Rattle.std.proofs.lemmas.Option.{slice_get-map}
use Rattle.csv.specs.Records.{field_at}
use Rattle.package_items.specs.Rows.{Fault, PackageRow}
use Rattle.package_items.specs.Texts.{is_blank}
use Rattle.package_items.specs.Members.{on_ok}
use Rattle.package_readers.specs.Tables.{each_record}

pub value_at : (values : List (Bor (List ℕ))) (column : ℕ)
    → slice_get (map (λ (x : Bor (List ℕ)). x.now) values) column ≡ option_map (λ (x : Bor (List ℕ)). x.now) (slice_get values column)
value_at values column = slice_get-map (λ (x : Bor (List ℕ)). x.now) values column

one_after : (values : List (List ℕ)) (index : ℕ) (value : List ℕ) → field_at values index ≡ Some value
    → take (suc index) values ≡ take index values ++ (value ∷ [])
unfolding field_at
one_after [] index value e = cc e
one_after (v ∷ vs) zero value e = cc e
one_after (v ∷ vs) (suc index) value e = ap (λ (vs : List (List ℕ)). v ∷ vs) (one_after vs index value e)

-- the values before a place, and the one there
pub one_more : (values : List (List ℕ)) (index : ℕ) (value : List ℕ) → field_at values index ≡ Some value
    → take (index + 1) values ≡ take index values ++ (value ∷ [])
one_more values index value e =
    let next : index + 1 ≡ suc index = omega arith in
    rw next (one_after values index value e)

-- within a record there is a value at each place
pub none_past : (values : List (List ℕ)) (index : ℕ) → index < length values → field_at values index ≡ None → ⊥
unfolding field_at
none_past [] index h e = absurd (omega arith)
none_past (v ∷ vs) zero h e = cc e
none_past (v ∷ vs) (suc index) h e = none_past vs index (omega arith) e

-- a record that is passed over
pub blank_row : (read : ℕ → List (List ℕ) → Result PackageRow Fault) (number next : ℕ) (values : List (List ℕ)) (more : List (List (List ℕ)))
    → next ≡ suc number → list_all is_blank values ≡ true → each_record read number (values ∷ more) ≡ each_record read next more
blank_row read number next values more e b = rw (e, b) refl

-- a record that is a package, behind those before it
pub read_row : (read : ℕ → List (List ℕ) → Result PackageRow Fault) (number next : ℕ) (values : List (List ℕ)) (more : List (List (List ℕ)))
    (before : List PackageRow) (p : PackageRow) → next ≡ suc number → list_all is_blank values ≡ false → read number values ≡ Ok p
    → on_ok (each_record read number (values ∷ more)) (λ ps. Ok (before ++ ps)) ≡ on_ok (each_record read next more) (λ ps. Ok ((before ++ (p ∷ [])) ++ ps))
read_row read number next values more before p e b is = rw (b, is, e) (by (each_record read (suc number) more))
  where
    by : (r : Result (List PackageRow) Fault)
        → on_ok (on_ok r (λ ps. Ok (p ∷ ps))) (λ ps. Ok (before ++ ps)) ≡ on_ok r (λ ps. Ok ((before ++ (p ∷ [])) ++ ps))
    by (Ok ps) = ap Ok (sym (append_assoc before (p ∷ []) ps))
    by (Err f) = refl
