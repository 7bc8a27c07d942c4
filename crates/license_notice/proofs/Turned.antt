-- The rows of bands by package.
use Rattle.std.proofs.Common.{◌≡◌, ◌<◌, Bool, true, false, List, [], ◌∷◌, length, map, flat_map, ◌⊎◌, inl, inr, refl, sym, ap, ◌∙◌, subst, arith}
use Rattle.std.specs.Prelude.{filter}
use Rattle.std.specs.List.{AllByRecursion}
use Rattle.std.proofs.lemmas.List.Elements.{All-from_recursion}
use Rattle.license_notice.specs.Once.{AreOnce}
use Rattle.license_notice.specs.Places.{holds, lines_in, bands_with, rows_with, AreByPackage}
use Rattle.license_notice.specs.Rows.{Row, Line, Band, row, rows_in, all_rows}
use Rattle.license_notice.proofs.Standing.{In, in_from, in_to, in_left, in_right, in_either, held, held_back}

-- ---- members of what is made of a list

pub map_in : {X Y : Type 0} (f : X → Y) (xs : List X) (x : X) → In xs x → In (map f xs) (f x)
map_in f [] x h = absurd h
map_in f (z ∷ xs) x (inl e) = inl (ap f e)
map_in f (z ∷ xs) x (inr h) = inr (map_in f xs x h)

pub map_out : {X Y : Type 0} (f : X → Y) (xs : List X) (y : Y) → In (map f xs) y → (x : X) × (In xs x × (f x ≡ y))
map_out f [] y h = absurd h
map_out f (z ∷ xs) y (inl e) = (z, (inl refl, e))
map_out f (z ∷ xs) y (inr h) = let found = map_out f xs y h in (found.0, (inr found.1.0, found.1.1))

flat_in : {X Y : Type 0} (f : X → List Y) (xs : List X) (x : X) (y : Y) → In xs x → In (f x) y → In (flat_map f xs) y
flat_in f [] x y h k = absurd h
flat_in f (z ∷ xs) x y (inl e) k = in_left (f z) _ y (subst (λ w. In (f w) y) (sym e) k)
flat_in f (z ∷ xs) x y (inr h) k = in_right (f z) _ y (flat_in f xs x y h k)

flat_out : {X Y : Type 0} (f : X → List Y) (xs : List X) (y : Y) → In (flat_map f xs) y → (x : X) × (In xs x × In (f x) y)
flat_out f [] y h = absurd h
flat_out f (z ∷ xs) y h = by (flat_out f xs y) (in_either (f z) (flat_map f xs) y h)
  where
    by : (In (flat_map f xs) y → (x : _) × (In xs x × In (f x) y)) → In (f z) y ⊎ In (flat_map f xs) y → (x : _) × (In (z ∷ xs) x × In (f x) y)
    by more (inl k) = (z, (inl refl, k))
    by more (inr k) = let found = more k in (found.0, (inr found.1.0, found.1.1))

pub filter_in : {X : Type 0} (p : X → Bool) (xs : List X) (x : X) → In xs x → p x ≡ true → In (filter p xs) x
filter_in p [] x h k = absurd h
filter_in p (z ∷ xs) x (inl e) k = let here : p z ≡ true = ap p e ∙ k in rw here (inl e)
filter_in p (z ∷ xs) x (inr h) k = by (filter_in p xs x h k) (p z) refl
  where
    by : In (filter p xs) x → (c : Bool) → p z ≡ c → In (filter p (z ∷ xs)) x
    by more true e = rw e (inr more)
    by more false e = rw e more

pub filter_out : {X : Type 0} (p : X → Bool) (xs : List X) (x : X) → In (filter p xs) x → In xs x × (p x ≡ true)
filter_out p [] x h = absurd h
filter_out p (z ∷ xs) x h = by (filter_out p xs x) (p z) refl
  where
    at : (In (filter p xs) x → In xs x × (p x ≡ true)) → p z ≡ true → In (z ∷ filter p xs) x → In (z ∷ xs) x × (p x ≡ true)
    at more e (inl same) = (inl same, sym (ap p same) ∙ e)
    at more e (inr m) = let found = more m in (inr found.0, found.1)

    by : (In (filter p xs) x → In xs x × (p x ≡ true)) → (c : Bool) → p z ≡ c → In (z ∷ xs) x × (p x ≡ true)
    by more true e = at more e (rw e at h)
    by more false e = let found = more (rw e at h) in (inr found.0, found.1)

-- ---- the rows

abbrev row_at : Line → Band → Row
row_at l b = row b.requirement l.name l.version

turned : (bands : List Band) (packages : List Line) (r : Row) → In (flat_map (rows_with bands) packages) r → In (all_rows bands) r
turned bands packages r h =
    let l = flat_out (rows_with bands) packages r h in
    let b = map_out (row_at l.0) (bands_with bands l.0) r l.1.1 in
    let at = filter_out (λ (b : Band). holds b.lines l.0) bands b.0 b.1.0 in
    let inside : In (rows_in b.0) (row_at l.0 b.0) = map_in (λ (l : Line). row_at l b.0) b.0.lines l.0 (held b.0.lines l.0 at.1) in
    subst (In (all_rows bands)) b.1.1 (flat_in rows_in bands b.0 (row_at l.0 b.0) at.0 inside)

turned_back : (bands : List Band) (packages : List Line) (r : Row) → ((l : Line) → In (lines_in bands) l → In packages l) → In (all_rows bands) r → In (flat_map (rows_with bands) packages) r
turned_back bands packages r all h =
    let b = flat_out rows_in bands r h in
    let l = map_out (λ (l : Line). row_at l b.0) b.0.lines r b.1.1 in
    let at : In (lines_in bands) l.0 = flat_in (λ (b : Band). b.lines) bands b.0 l.0 b.1.0 l.1.0 in
    let with = filter_in (λ (b : Band). holds b.lines l.0) bands b.0 b.1.0 (held_back b.0.lines l.0 l.1.0) in
    subst (In (flat_map (rows_with bands) packages)) l.1.1 (flat_in (rows_with bands) packages l.0 (row_at l.0 b.0) (all l.0 at) (map_in (row_at l.0) (bands_with bands l.0) b.0 with))

some : {X : Type 0} (xs : List X) (x : X) → In xs x → 0 < length xs
some [] x h = absurd h
some (z ∷ xs) x h = omega arith

one_at_least : (bands : List Band) (l : Line) → In (lines_in bands) l → 0 < length (rows_with bands l)
one_at_least bands l h =
    let b = flat_out (λ (b : Band). b.lines) bands l h in
    let with = filter_in (λ (b : Band). holds b.lines l) bands b.0 b.1.0 (held_back b.0.lines l b.1.1) in
    some (rows_with bands l) (row_at l b.0) (map_in (row_at l) (bands_with bands l) b.0 with)

all_from : {X : Type 0} (P : X → Type 0) (xs : List X) → ((x : X) → In xs x → P x) → AllByRecursion P xs
all_from P [] h = tt
all_from P (x ∷ xs) h = (h x (inl refl), all_from P xs (λ z m. h z (inr m)))

pub by_package : (bands : List Band) (packages : List Line) → AreOnce (lines_in bands) packages → AreByPackage bands packages
by_package bands packages once = record {
  once = once;
  rows = λ r. (
    λ h. in_to _ r (turned bands packages r (in_from _ r h)),
    λ h. in_to _ r (turned_back bands packages r (λ l m. in_from packages l ((once.same l).1 (in_to _ l m))) (in_from _ r h)),
  );
  none_empty = All-from_recursion (λ l. 0 < length (rows_with bands l)) packages (all_from (λ l. 0 < length (rows_with bands l)) packages (λ l h. one_at_least bands l (in_from _ l ((once.same l).0 (in_to packages l h)))));
}
