-- The places of a package among sorted rows: the numbers of the lists that hold it.
use Rattle.std.proofs.Common.{◌≡◌, ℕ, zero, suc, ◌+◌, ◌<◌, ◌≤◌, ◌&&◌, Bool, true, false, cond, List, [], ◌∷◌, ◌++◌, length, map, take, get_or, append_assoc, append-nil, Contains, Ordering, ◌⊎◌, inl, inr, refl, sym, ap, ◌∙◌, subst, arith}
use Rattle.std.specs.Borrow.{Bor}
use Rattle.std.specs.Prelude.{filter, nat_eq}
use Rattle.std.specs.List.{AllByRecursion}
use Rattle.std.specs.List.Sorted.{IsStrictlySortedBy}
use Rattle.std.specs.Ordering.{nat_cmp, ordering_then, is_eq, is_lt, is_le}
use Rattle.std.specs.Str.{bytes_eq}
use Rattle.std.specs.Cmp.{IsTotalOrder, both_tied}
use Rattle.std.specs.Cmp.Lexicographic.{texts_ties, on_texts}
use Rattle.std.specs.declared.cmp.Ordering.TheVariants.{Less, Equal, Greater}
use Rattle.std.proofs.lemmas.Bool.Decides.{nat_tests}
use Rattle.std.proofs.lemmas.Cmp.{then_total}
use Rattle.std.proofs.lemmas.Slice.Eq.{bytes_eq-Decides}
use Rattle.license_notice.specs.declared.packages.Release.{Release}
use Rattle.license_notice.specs.declared.places.Place.{Place}
use Rattle.license_notice.specs.Notices.{line_of}
use Rattle.license_notice.specs.Once.{line_cmp}
use Rattle.license_notice.specs.Places.{same_line, holds, numbers_from, place_cmp, is_of, place, places_from}
use Rattle.license_notice.specs.Rows.{Line}
use Rattle.license_notice.proofs.Bands.{same}

-- ---- packages that are the same

pub both_parts : (a b : Bool) → (a && b) ≡ true → (a ≡ true) × (b ≡ true)
both_parts true b h = (refl, h)
both_parts false b h = absurd (let bad : false ≡ true = h in cc)

abbrev line_with : List ℕ → List ℕ → Line
line_with name version = record { name = name; version = version }

pub alike : (x y : Line) → same_line x y ≡ true → x ≡ y
alike x y h =
    let both = both_parts (bytes_eq x.name y.name) (bytes_eq x.version y.version) h in
    let n = same x.name y.name both.0 in
    let v = same x.version y.version both.1 in
    ap (λ (t : List ℕ). line_with t x.version) n ∙ ap (line_with y.name) v

itself : (x : Line) → same_line x x ≡ true
itself x = rw ((bytes_eq-Decides x.name x.name).1 refl) ((bytes_eq-Decides x.version x.version).1 refl)

pub alike_back : (x y : Line) → x ≡ y → same_line x y ≡ true
alike_back x y e = subst (λ (z : Line). same_line x z ≡ true) e (itself x)

pub tied : (x y : Line) → same_line x y ≡ is_eq (line_cmp x y)
tied x y = both_tied _ _ _ _ (texts_ties x.name y.name) (texts_ties x.version y.version)

pub lines_total : IsTotalOrder line_cmp
lines_total = then_total (on_texts (λ (l : Line). l.name)) (on_texts (λ l. l.version))

pub same_number : (x y : ℕ) → nat_eq x y ≡ true → x ≡ y
same_number x y = grind (arith, nat_tests)

-- ---- members

abbrev pub In : {X : Type 0} → List X → X → Type 0
In [] x = ⊥
In (y ∷ ys) x = (y ≡ x) ⊎ In ys x

pub in_from : {X : Type 0} (xs : List X) (x : X) → Contains xs x → In xs x
in_from [] x h = absurd (omega (arith, h.1))
in_from (y ∷ ys) x (zero, low, at) = inl at
in_from (y ∷ ys) x (suc i, low, at) = inr (in_from ys x (i, omega arith, at))

pub in_to : {X : Type 0} (xs : List X) (x : X) → In xs x → Contains xs x
in_to [] x h = absurd h
in_to (y ∷ ys) x (inl e) = (zero, omega arith, e)
in_to (y ∷ ys) x (inr h) =
    let found = in_to ys x h in
    (suc found.0, omega (arith, found.1), found.2)

pub in_left : {X : Type 0} (xs ys : List X) (x : X) → In xs x → In (xs ++ ys) x
in_left [] ys x h = absurd h
in_left (z ∷ xs) ys x (inl e) = inl e
in_left (z ∷ xs) ys x (inr h) = inr (in_left xs ys x h)

pub in_right : {X : Type 0} (xs ys : List X) (x : X) → In ys x → In (xs ++ ys) x
in_right [] ys x h = h
in_right (z ∷ xs) ys x h = inr (in_right xs ys x h)

pub in_either : {X : Type 0} (xs ys : List X) (x : X) → In (xs ++ ys) x → In xs x ⊎ In ys x
in_either [] ys x h = inr h
in_either (z ∷ xs) ys x (inl e) = inl (inl e)
in_either (z ∷ xs) ys x (inr h) = further (in_either xs ys x h)
  where
    further : In xs x ⊎ In ys x → In (z ∷ xs) x ⊎ In ys x
    further (inl k) = inl (inr k)
    further (inr k) = inr k

-- ---- numbers that ascend

abbrev pub Up : List ℕ → Type 0
Up [] = Unit {0}
Up (x ∷ xs) = AllByRecursion (λ y. x < y) xs × Up xs

above : (x k : ℕ) (xs : List ℕ) → AllByRecursion (λ y. x < y) xs → In xs k → x < k
above x k [] a h = absurd h
above x k (y ∷ ys) a (inl e) = omega (arith, a.0, e)
above x k (y ∷ ys) a (inr h) = above x k ys a.1 h

first_le : (x y : ℕ) (ys : List ℕ) → AllByRecursion (λ z. y < z) ys → In (y ∷ ys) x → y ≤ x
first_le x y ys a (inl e) = omega (arith, e)
first_le x y ys a (inr h) = omega (arith, above y x ys a h)

later : (x y k : ℕ) (xs ys : List ℕ) → x ≡ y → x < k → In (y ∷ ys) k → In ys k
later x y k xs ys e l (inl h) = absurd (omega (arith, e, l, h))
later x y k xs ys e l (inr h) = h

-- two lists that ascend and have the same numbers are one
pub one_list : (xs ys : List ℕ) → Up xs → Up ys → ((k : ℕ) → In xs k → In ys k) → ((k : ℕ) → In ys k → In xs k) → xs ≡ ys
one_list [] [] a b f g = refl
one_list [] (y ∷ ys) a b f g = absurd (g y (inl refl))
one_list (x ∷ xs) [] a b f g = absurd (f x (inl refl))
one_list (x ∷ xs) (y ∷ ys) a b f g =
    let e : x ≡ y = omega (arith, first_le x y ys b.0 (f x (inl refl)), first_le y x xs a.0 (g y (inl refl))) in
    let rest : xs ≡ ys =
    one_list xs ys a.1 b.1 (λ k h. later x y k xs ys e (above x k xs a.0 h) (f k (inr h))) (λ k h. later y x k ys xs (sym e) (above y k ys b.0 h) (g k (inr h))) in
    ap (λ (z : ℕ). z ∷ xs) e ∙ ap (λ (zs : List ℕ). y ∷ zs) rest

-- ---- the numbers of lists

cond_up : (c : Bool) (n : ℕ) (more : List ℕ) → AllByRecursion (λ y. n < y) more → Up more → Up (cond c (n ∷ []) [] ++ more)
cond_up true n more a u = (a, u)
cond_up false n more a u = u

cond_above : (c : Bool) (m n : ℕ) (more : List ℕ) → m < n → AllByRecursion (λ y. m < y) more → AllByRecursion (λ y. m < y) (cond c (n ∷ []) [] ++ more)
cond_above true m n more l a = (l, a)
cond_above false m n more l a = a

numbers_above : (m n : ℕ) (lists : List (List Line)) (l : Line) → m < n → AllByRecursion (λ y. m < y) (numbers_from n lists l)
numbers_above m n [] l h = tt
numbers_above m n (ls ∷ lists) l h = cond_above (holds ls l) m n _ h (numbers_above m (n + 1) lists l (omega arith))

pub numbers_up : (n : ℕ) (lists : List (List Line)) (l : Line) → Up (numbers_from n lists l)
numbers_up n [] l = tt
numbers_up n (ls ∷ lists) l = cond_up (holds ls l) n _ (numbers_above n (n + 1) lists l (omega arith)) (numbers_up (n + 1) lists l)

-- ---- rows as lines with numbers

abbrev pub Seat : Type 0
Seat = Line × ℕ

abbrev pub seat_of : Place → Seat
seat_of p = (line_of p.release, p.number)

abbrev pub seat_cmp : Seat → Seat → Ordering
seat_cmp x y = ordering_then (line_cmp x.0 y.0) (nat_cmp x.1 y.1)

abbrev pub has : Line → Seat → Bool
has l s = same_line s.0 l

abbrev pub second : Seat → ℕ
second s = s.1

pub numbers_seen : (l : Line) (rows : List Place) → map (λ (p : Place). p.number) (filter (is_of l) rows) ≡ map second (filter (has l) (map seat_of rows))
numbers_seen l [] = refl
numbers_seen l (p ∷ rows) = seen (numbers_seen l rows) (is_of l p) refl
  where
    seen : map (λ (p : Place). p.number) (filter (is_of l) rows) ≡ map second (filter (has l) (map seat_of rows)) → (c : Bool) → is_of l p ≡ c → map (λ (p : Place). p.number) (filter (is_of l) (p ∷ rows)) ≡ map second (filter (has l) (map seat_of (p ∷ rows)))
    seen more true e = rw e (ap (λ (ns : List ℕ). p.number ∷ ns) more)
    seen more false e = rw e more

-- those of one package ascend by number
nat_less : (x y : ℕ) → nat_cmp x y ≡ Less → x < y
nat_less x y = grind (arith, nat_tests)

tie_breaks : (x y : Seat) → same_line x.0 y.0 ≡ true → seat_cmp x y ≡ Less → x.1 < y.1
tie_breaks x y e h = by (line_cmp x.0 y.0) refl
  where
    by : (o : Ordering) → line_cmp x.0 y.0 ≡ o → x.1 < y.1
    by Less k = absurd (let bad : false ≡ true = sym (tied x.0 y.0 ∙ ap is_eq k) ∙ e in cc)
    by Equal k = nat_less x.1 y.1 (sym (ap (λ (o : Ordering). ordering_then o (nat_cmp x.1 y.1)) k) ∙ h)
    by Greater k = absurd (let bad : false ≡ true = sym (tied x.0 y.0 ∙ ap is_eq k) ∙ e in cc)

rest_above : (l : Line) (s : Seat) (seats : List Seat) → has l s ≡ true → AllByRecursion (λ u. seat_cmp s u ≡ Less) seats → AllByRecursion (λ y. s.1 < y) (map second (filter (has l) seats))
rest_above l s [] e h = tt
rest_above l s (u ∷ seats) e h = by (rest_above l s seats e h.1) (has l u) refl
  where
    by : AllByRecursion (λ y. s.1 < y) (map second (filter (has l) seats)) → (c : Bool) → has l u ≡ c → AllByRecursion (λ y. s.1 < y) (map second (filter (has l) (u ∷ seats)))
    by more true k = rw k (tie_breaks s u (alike_back s.0 u.0 (alike s.0 l e ∙ sym (alike u.0 l k))) h.0, more)
    by more false k = rw k more

pub seats_up : (l : Line) (seats : List Seat) → IsStrictlySortedBy seat_cmp seats → Up (map second (filter (has l) seats))
unfolding IsStrictlySortedBy
seats_up l [] h = tt
seats_up l (s ∷ seats) h = by (seats_up l seats h.1) (has l s) refl
  where
    by : Up (map second (filter (has l) seats)) → (c : Bool) → has l s ≡ c → Up (map second (filter (has l) (s ∷ seats)))
    by more true k = rw k (rest_above l s seats k h.0, more)
    by more false k = rw k more

-- a number among those of the package is a row of it
pub seated : (l : Line) (seats : List Seat) (k : ℕ) → In (map second (filter (has l) seats)) k → In seats (l, k)
seated l [] k h = absurd h
seated l (s ∷ seats) k h = by (seated l seats k) (has l s) refl
  where
    at : (In (map second (filter (has l) seats)) k → In seats (l, k)) → has l s ≡ true → In (s.1 ∷ map second (filter (has l) seats)) k → In (s ∷ seats) (l, k)
    at more e (inl n) = inl (ap (λ (x : Line). (x, s.1)) (alike s.0 l e) ∙ ap (λ (j : ℕ). (l, j)) n)
    at more e (inr m) = inr (more m)

    by : (In (map second (filter (has l) seats)) k → In seats (l, k)) → (c : Bool) → has l s ≡ c → In (s ∷ seats) (l, k)
    by more true e = at more e (rw e at h)
    by more false e = inr (more (rw e at h))

pub seated_back : (l : Line) (seats : List Seat) (k : ℕ) → In seats (l, k) → In (map second (filter (has l) seats)) k
seated_back l [] k h = absurd h
seated_back l (s ∷ seats) k h = by (seated_back l seats k) (has l s) refl h
  where
    by : (In seats (l, k) → In (map second (filter (has l) seats)) k) → (c : Bool) → has l s ≡ c → In (s ∷ seats) (l, k) → In (map second (filter (has l) (s ∷ seats))) k
    by more true e (inl m) = rw e (inl (ap second m))
    by more true e (inr m) = rw e (inr (more m))
    by more false e (inl m) = absurd (let bad : false ≡ true = sym e ∙ alike_back s.0 l (ap (λ (u : Seat). u.0) m) in cc)
    by more false e (inr m) = rw e (more m)

-- ---- the rows of lists

abbrev pub lines_each : List (List Release) → List (List Line)
lines_each lists = map (λ (rs : List Release). map line_of rs) lists

pub lines_seen : (lists : List (Bor (List Release))) → lines_each (map (λ (rs : Bor (List Release)). rs.now) lists) ≡ map (λ (rs : Bor (List Release)). map line_of rs.now) lists
lines_seen [] = refl
lines_seen (rs ∷ lists) = ap (λ (ls : List (List Line)). map line_of rs.now ∷ ls) (lines_seen lists)

pub held : (lines : List Line) (l : Line) → holds lines l ≡ true → In lines l
held [] l h = absurd (let bad : false ≡ true = h in cc)
held (x ∷ lines) l h = by (held lines l) (same_line l x) refl
  where
    by : (holds lines l ≡ true → In lines l) → (c : Bool) → same_line l x ≡ c → In (x ∷ lines) l
    by more true e = inl (sym (alike l x e))
    by more false e = inr (more (rw e at h))

pub held_back : (lines : List Line) (l : Line) → In lines l → holds lines l ≡ true
held_back [] l h = absurd h
held_back (x ∷ lines) l (inl e) = rw (alike_back l x (sym e)) refl
held_back (x ∷ lines) l (inr h) = by (held_back lines l h) (same_line l x) refl
  where
    by : holds lines l ≡ true → (c : Bool) → same_line l x ≡ c → holds (x ∷ lines) l ≡ true
    by more true e = rw e refl
    by more false e = rw e more

abbrev Rest : ℕ → List Release → List (List Release) → List Seat
Rest n rs lists = map seat_of (map (place n) rs) ++ map seat_of (places_from (n + 1) lists)

seat_in : (n : ℕ) (rs : List Release) (l : Line) → In (map line_of rs) l → In (map seat_of (map (place n) rs)) (l, n)
seat_in n [] l h = absurd h
seat_in n (r ∷ rs) l (inl e) = inl (ap (λ (x : Line). (x, n)) e)
seat_in n (r ∷ rs) l (inr h) = inr (seat_in n rs l h)

seat_out : (n : ℕ) (rs : List Release) (l : Line) (k : ℕ) → In (map seat_of (map (place n) rs)) (l, k) → In (map line_of rs) l × (n ≡ k)
seat_out n [] l k h = absurd h
seat_out n (r ∷ rs) l k (inl e) = (inl (ap (λ (s : Seat). s.0) e), ap second e)
seat_out n (r ∷ rs) l k (inr h) = let found = seat_out n rs l k h in (inr found.0, found.1)

split_seats : (n : ℕ) (rs : List Release) (more : List Place) → map seat_of (map (place n) rs ++ more) ≡ map seat_of (map (place n) rs) ++ map seat_of more
split_seats n [] more = refl
split_seats n (r ∷ rs) more = ap (λ (ss : List Seat). seat_of (place n r) ∷ ss) (split_seats n rs more)

pub numbered_in : (n : ℕ) (lists : List (List Release)) (l : Line) (k : ℕ) → In (numbers_from n (lines_each lists) l) k → In (map seat_of (places_from n lists)) (l, k)
numbered_in n [] l k h = absurd h
numbered_in n (rs ∷ lists) l k h =
    rw (split_seats n rs (places_from (n + 1) lists)) (by (numbered_in (n + 1) lists l k) (holds (map line_of rs) l) refl)
  where
    past : In (map seat_of (places_from (n + 1) lists)) (l, k) → In (Rest n rs lists) (l, k)
    past m = in_right (map seat_of (map (place n) rs)) _ (l, k) m

    at : (In (numbers_from (n + 1) (lines_each lists) l) k → In (map seat_of (places_from (n + 1) lists)) (l, k)) → holds (map line_of rs) l ≡ true → In (n ∷ numbers_from (n + 1) (lines_each lists) l) k → In (Rest n rs lists) (l, k)
    at more e (inl same) =
        subst (λ (j : ℕ). In (Rest n rs lists) (l, j)) same (in_left (map seat_of (map (place n) rs)) _ (l, n) (seat_in n rs l (held (map line_of rs) l e)))
    at more e (inr m) = past (more m)

    by : (In (numbers_from (n + 1) (lines_each lists) l) k → In (map seat_of (places_from (n + 1) lists)) (l, k)) → (c : Bool) → holds (map line_of rs) l ≡ c → In (Rest n rs lists) (l, k)
    by more true e = at more e (rw e at h)
    by more false e = past (more (rw e at h))

cond_in : (c : Bool) (n k : ℕ) (more : List ℕ) → In more k → In (cond c (n ∷ []) [] ++ more) k
cond_in true n k more h = inr h
cond_in false n k more h = h

pub numbered_out : (n : ℕ) (lists : List (List Release)) (l : Line) (k : ℕ) → In (map seat_of (places_from n lists)) (l, k) → In (numbers_from n (lines_each lists) l) k
numbered_out n [] l k h = absurd h
numbered_out n (rs ∷ lists) l k h =
    by (numbered_out (n + 1) lists l k) (in_either (map seat_of (map (place n) rs)) _ (l, k) (rw (split_seats n rs (places_from (n + 1) lists)) at h))
  where
    first : In (map line_of rs) l × (n ≡ k) → In (numbers_from n (lines_each (rs ∷ lists)) l) k
    first found = rw (held_back (map line_of rs) l found.0) (inl found.1)

    by : (In (map seat_of (places_from (n + 1) lists)) (l, k) → In (numbers_from (n + 1) (lines_each lists) l) k) → In (map seat_of (map (place n) rs)) (l, k) ⊎ In (map seat_of (places_from (n + 1) lists)) (l, k) → In (numbers_from n (lines_each (rs ∷ lists)) l) k
    by more (inl m) = first (seat_out n rs l k m)
    by more (inr m) = cond_in (holds (map line_of rs) l) n k _ (more m)

-- ---- sorted rows without doubles

pub places_are : (rows : List Place) (lists : List (List Release)) → IsStrictlySortedBy seat_cmp (map seat_of rows) → ((s : Seat) → Contains (map seat_of rows) s → Contains (map seat_of (places_from 0 lists)) s)
    → ((s : Seat) → Contains (map seat_of (places_from 0 lists)) s → Contains (map seat_of rows) s)
    → (l : Line) → map (λ (p : Place). p.number) (filter (is_of l) rows) ≡ numbers_from 0 (lines_each lists) l
places_are rows lists sorted from to l =
    numbers_seen l rows
    ∙ one_list _ _ (seats_up l (map seat_of rows) sorted) (numbers_up 0 (lines_each lists) l)
    (λ k h. numbered_out 0 lists l k (in_from _ _ (from (l, k) (in_to _ _ (seated l (map seat_of rows) k h)))))
    (λ k h. seated_back l (map seat_of rows) k (in_from _ _ (to (l, k) (in_to _ _ (numbered_in 0 lists l k h)))))

-- one list more
places_suc : (n : ℕ) (lists : List (Bor (List Release))) (i : ℕ) (d : Bor (List Release)) → i < length lists →
    places_from n (map (λ (rs : Bor (List Release)). rs.now) (take (suc i) lists)) ≡ places_from n (map (λ (rs : Bor (List Release)). rs.now) (take i lists)) ++ map (place (n + i)) (get_or lists i d).now
places_suc n [] i d l = absurd (omega arith)
places_suc n (rs ∷ lists) zero d l =
    let same : n ≡ n + 0 = omega arith in
    append-nil (map (place n) rs.now) ∙ ap (λ (k : ℕ). map (place k) rs.now) same
places_suc n (rs ∷ lists) (suc i) d l =
    let same : n + 1 + i ≡ n + suc i = omega arith in
    ap (λ (ps : List Place). map (place n) rs.now ++ ps) (places_suc (n + 1) lists i d (omega arith) ∙ ap (λ (k : ℕ). places_from (n + 1) (map (λ (rs : Bor (List Release)). rs.now) (take i lists)) ++ map (place k) (get_or lists i d).now) same)
    ∙ sym (append_assoc (map (place n) rs.now) (places_from (n + 1) (map (λ (rs : Bor (List Release)). rs.now) (take i lists))) (map (place (n + suc i)) (get_or lists i d).now))

-- what stands for a list past the last
abbrev pub no_list : Bor (List Release)
no_list = record { ref_ptr = (0, 0); now = [] }

pub places_more : (lists : List (Bor (List Release))) (i : ℕ) → i < length lists → (was now : List Place) →
    was ≡ places_from 0 (map (λ (rs : Bor (List Release)). rs.now) (take i lists)) → now ≡ was ++ map (place i) (get_or lists i no_list).now →
    now ≡ places_from 0 (map (λ (rs : Bor (List Release)). rs.now) (take (i + 1) lists))
places_more lists i l was now h k =
    let next : i + 1 ≡ suc i = omega arith in
    let same : 0 + i ≡ i = omega arith in
    k ∙ ap (λ (ps : List Place). ps ++ map (place i) (get_or lists i no_list).now) h
    ∙ ap (λ (j : ℕ). places_from 0 (map (λ (rs : Bor (List Release)). rs.now) (take i lists)) ++ map (place j) (get_or lists i no_list).now) (sym same)
    ∙ sym (places_suc 0 lists i no_list l)
    ∙ ap (λ (j : ℕ). places_from 0 (map (λ (rs : Bor (List Release)). rs.now) (take j lists))) (sym next)

-- ---- where the rows of a package begin and end

pub closed_lt : (l : Line) (x y : Place) → place_cmp x y ≡ Less → is_lt (line_cmp (line_of y.release) l) ≡ true → is_lt (line_cmp (line_of x.release) l) ≡ true
closed_lt l x y h k = by (line_cmp a b) refl
  where
    a : Line
    a = line_of x.release

    b : Line
    b = line_of y.release

    less : (o : Ordering) → is_lt o ≡ true → o ≡ Less
    less Less e = refl
    less Equal e = let bad : false ≡ true = e in cc
    less Greater e = let bad : false ≡ true = e in cc

    by : (o : Ordering) → line_cmp a b ≡ o → is_lt (line_cmp a l) ≡ true
    by Less e = ap is_lt (lines_total.trans a b l e (less (line_cmp b l) k))
    by Equal e = ap is_lt (lines_total.congr a b l e) ∙ k
    by Greater e = absurd (let bad : Greater ≡ Less = sym (ap (λ (o : Ordering). ordering_then o (nat_cmp x.number y.number)) e) ∙ h in cc)

pub closed_le : (l : Line) (x y : Place) → place_cmp x y ≡ Less → is_le (line_cmp (line_of y.release) l) ≡ true → is_le (line_cmp (line_of x.release) l) ≡ true
closed_le l x y h k = by (line_cmp a b) refl
  where
    a : Line
    a = line_of x.release

    b : Line
    b = line_of y.release

    behind : line_cmp a b ≡ Less → (o : Ordering) → line_cmp b l ≡ o → is_le o ≡ true → is_le (line_cmp a l) ≡ true
    behind e Less m n = ap is_le (lines_total.trans a b l e m)
    behind e Equal m n = ap is_le (ap (line_cmp a) (sym (alike b l (tied b l ∙ ap is_eq m))) ∙ e)
    behind e Greater m n = let bad : false ≡ true = n in cc

    by : (o : Ordering) → line_cmp a b ≡ o → is_le (line_cmp a l) ≡ true
    by Less e = behind e (line_cmp b l) refl k
    by Equal e = ap is_le (lines_total.congr a b l e) ∙ k
    by Greater e = absurd (let bad : Greater ≡ Less = sym (ap (λ (o : Ordering). ordering_then o (nat_cmp x.number y.number)) e) ∙ h in cc)

pub before_none : (l : Line) (p : Place) → is_lt (line_cmp (line_of p.release) l) ≡ true → is_of l p ≡ false
before_none l p h = tied (line_of p.release) l ∙ by (line_cmp (line_of p.release) l) h
  where
    by : (o : Ordering) → is_lt o ≡ true → is_eq o ≡ false
    by Less e = refl
    by Equal e = absurd (let bad : false ≡ true = e in cc)
    by Greater e = refl

pub at_all : (l : Line) (p : Place) → is_lt (line_cmp (line_of p.release) l) ≡ false → is_le (line_cmp (line_of p.release) l) ≡ true → is_of l p ≡ true
at_all l p h k = tied (line_of p.release) l ∙ by (line_cmp (line_of p.release) l) h k
  where
    by : (o : Ordering) → is_lt o ≡ false → is_le o ≡ true → is_eq o ≡ true
    by Less e f = absurd (let bad : true ≡ false = e in cc)
    by Equal e f = refl
    by Greater e f = absurd (let bad : false ≡ true = f in cc)

pub behind_none : (l : Line) (p : Place) → is_le (line_cmp (line_of p.release) l) ≡ false → is_of l p ≡ false
behind_none l p h = tied (line_of p.release) l ∙ by (line_cmp (line_of p.release) l) h
  where
    by : (o : Ordering) → is_le o ≡ false → is_eq o ≡ false
    by Less e = refl
    by Equal e = absurd (let bad : true ≡ false = e in cc)
    by Greater e = refl
