-- Rows in groups.
use Rattle.std.proofs.Common.{◌≡◌, ℕ, suc, ◌+◌, ◌<◌, Bool, true, false, cond, List, [], ◌∷◌, ◌++◌, length, map, take, drop, append_assoc, All, Ordering, refl, sym, ap, ◌∙◌, subst, ◌⊎◌, inl, inr, arith}
use Rattle.std.specs.List.{AllByRecursion, prefix_len}
use Rattle.std.specs.List.Sorted.{IsStrictlySortedBy}
use Rattle.std.specs.Ordering.{ordering_then, is_eq}
use Rattle.std.specs.Str.{bytes_eq}
use Rattle.std.specs.Cmp.Lexicographic.{texts_ties}
use Rattle.std.proofs.lemmas.Cmp.{nat_list_cmp_total}
use Rattle.std.proofs.lemmas.List.Elements.{All-from_recursion}
use Rattle.std.specs.declared.cmp.Ordering.TheVariants.{Less, Equal, Greater}
use Rattle.std.proofs.lemmas.Slice.Eq.{bytes_eq-Decides}
use Rattle.license_notice.specs.declared.stands.Stand.{Stand}
use Rattle.license_notice.specs.Rows.{Row, Line, Band, row, row_cmp, text_cmp, all_rows}
use Rattle.license_notice.specs.Grouping.{line_in, onto, first_name, grouped}
use Rattle.license_notice.specs.Stands.{row_of}
use Rattle.license_notice.specs.declared.packages.Group.{Group}
use Rattle.license_notice.specs.Notices.{line_of, band_of, bands_of, names_of}
use Rattle.std.proofs.lemmas.List.{map-append}

-- a group
abbrev pub band : List ℕ → List Line → Band
band requirement lines = record { requirement = requirement; lines = lines }

abbrev pub alone : Row → Band
alone r = band r.requirement (line_in r ∷ [])

pub same : (x y : List ℕ) → bytes_eq x y ≡ true → x ≡ y
same x y = (bytes_eq-Decides x y).0

-- a row of another requirement than that of the row behind it
apart_so : (s t : Row) (b : Band) (bands : List Band) (c : Bool) → bytes_eq s.requirement t.requirement ≡ false → (c ≡ true → t.requirement ≡ b.requirement) →
    onto s (cond c (band b.requirement (line_in t ∷ b.lines) ∷ bands) (alone t ∷ b ∷ bands)) ≡ alone s ∷ cond c (band b.requirement (line_in t ∷ b.lines) ∷ bands) (alone t ∷ b ∷ bands)
apart_so s t b bands true e h = rw (subst (λ (q : List ℕ). bytes_eq s.requirement q ≡ false) (h refl) e) refl
apart_so s t b bands false e h = rw e refl

apart : (s t : Row) (bands : List Band) → bytes_eq s.requirement t.requirement ≡ false → onto s (onto t bands) ≡ alone s ∷ onto t bands
apart s t [] e = rw e refl
apart s t (b ∷ bands) e = apart_so s t b bands (bytes_eq t.requirement b.requirement) e (same t.requirement b.requirement)

abbrev pub lines : List Stand → List Line
lines ss = map (λ (s : Stand). line_in (row_of s)) ss

abbrev pub has : List ℕ → Stand → Bool
has q s = bytes_eq s.requirement.now q

abbrev Step : List ℕ → Stand → List Stand → ℕ → Type 0
Step q s ss n = grouped (row_of s ∷ map row_of ss) ≡ band q (line_in (row_of s) ∷ lines (take n ss)) ∷ grouped (map row_of (drop n ss))

joined : (s : Row) (q : List ℕ) (ls : List Line) (bands : List Band) → bytes_eq s.requirement q ≡ true → onto s (band q ls ∷ bands) ≡ band q (line_in s ∷ ls) ∷ bands
joined s q ls bands e = rw e refl

differ_so : (x y q : List ℕ) (c : Bool) → bytes_eq x y ≡ c → bytes_eq x q ≡ true → bytes_eq y q ≡ false → c ≡ false
differ_so x y q true k e h = let other : bytes_eq y q ≡ true = subst (λ (z : List ℕ). bytes_eq z q ≡ true) (same x y k) e in cc
differ_so x y q false k e h = refl

differ : (x y q : List ℕ) → bytes_eq x q ≡ true → bytes_eq y q ≡ false → bytes_eq x y ≡ false
differ x y q e h = differ_so x y q (bytes_eq x y) refl e h

-- the same where another row stands behind, which may have the requirement too
step_so : (q : List ℕ) (s t : Stand) (ss : List Stand) → has q s ≡ true → (has q t ≡ true → Step q t ss (prefix_len (has q) ss)) →
    (c : Bool) → has q t ≡ c → Step q s (t ∷ ss) (cond c (1 + prefix_len (has q) ss) 0)
step_so q s t ss e more true h =
    let n = prefix_len (has q) ss in
    let next : suc n ≡ 1 + n = omega arith in
    let whole : Step q s (t ∷ ss) (suc n) = ap (onto (row_of s)) (more h) ∙ joined (row_of s) q (line_in (row_of t) ∷ lines (take n ss)) (grouped (map row_of (drop n ss))) e in
    subst (Step q s (t ∷ ss)) next whole
step_so q s t ss e more false h =
    let bands = grouped (map row_of ss) in
    apart (row_of s) (row_of t) bands (differ s.requirement.now t.requirement.now q e h)
    ∙ ap (λ (r : List ℕ). band r (line_in (row_of s) ∷ []) ∷ onto (row_of t) bands) (same s.requirement.now q e)

-- the rows of a requirement at the front are a group
step : (q : List ℕ) (s : Stand) (ss : List Stand) → has q s ≡ true → Step q s ss (prefix_len (has q) ss)
step q s [] e = ap (λ (r : List ℕ). band r (line_in (row_of s) ∷ []) ∷ []) (same s.requirement.now q e)
step q s (t ∷ ss) e = step_so q s t ss e (step q t ss) (has q t) refl

-- the first group, by its requirement
abbrev FirstGroup : List Stand → List ℕ → ℕ → Type 0
FirstGroup rest q n =
    grouped (map row_of rest) ≡ band q (lines (take n rest)) ∷ grouped (map row_of (drop n rest))

run_more : (s : Stand) (ss : List Stand) → suc (prefix_len (has s.requirement.now) ss) ≡ prefix_len (has s.requirement.now) (s ∷ ss)
run_more s ss = let itself = (bytes_eq-Decides s.requirement.now s.requirement.now).1 refl in rw itself (omega arith)

group_at : (rest : List Stand) → 0 < length rest → (q : List ℕ) → q ≡ first_name (map row_of rest) → FirstGroup rest q (prefix_len (has q) rest)
group_at [] l q e = absurd (omega arith)
group_at (s ∷ ss) l q e =
    subst (λ (r : List ℕ). FirstGroup (s ∷ ss) r (prefix_len (has r) (s ∷ ss))) (sym e)
    (subst (FirstGroup (s ∷ ss) s.requirement.now) (run_more s ss) (step s.requirement.now s ss ((bytes_eq-Decides s.requirement.now s.requirement.now).1 refl)))

-- a run is not empty
pub run_some : (rest : List Stand) → 0 < length rest → (q : List ℕ) → q ≡ first_name (map row_of rest) → 0 < prefix_len (has q) rest
run_some [] l q e = absurd (omega arith)
run_some (s ∷ ss) l q e = subst (λ (r : List ℕ). 0 < prefix_len (has r) (s ∷ ss)) (sym e) (omega (arith, run_more s ss))

-- one more group
pub group_pushed : (groups : List Group) (g : Group) (rest : List Stand) (n : ℕ) (all : List Band) → bands_of groups ++ grouped (map row_of rest) ≡ all →
    0 < length rest → g.requirement.now ≡ first_name (map row_of rest) → n ≡ prefix_len (has g.requirement.now) rest → map line_of g.packages.items ≡ lines (take n rest) →
    bands_of (groups ++ g ∷ []) ++ grouped (map row_of (drop n rest)) ≡ all
group_pushed groups g rest n all h l at len shown =
    let q = g.requirement.now in
    let one : band_of g ≡ band q (lines (take n rest)) = ap (band q) shown in
    let whole : grouped (map row_of rest) ≡ band q (lines (take n rest)) ∷ grouped (map row_of (drop n rest)) =
    subst (FirstGroup rest q) (sym len) (group_at rest l q at) in
    simp (map-append, append_assoc) (ap (λ (b : Band). bands_of groups ++ b ∷ grouped (map row_of (drop n rest))) one ∙ ap (λ (bs : List Band). bands_of groups ++ bs) (sym whole) ∙ h)

-- ---- what groups keep of rows

itself : (r : Row) (q : List ℕ) → r.requirement ≡ q → row q r.name r.version ≡ r
itself r q e = ap (λ (t : List ℕ). row t r.name r.version) (sym e)

rows_onto_so : (r : Row) (b : Band) (bands : List Band) (c : Bool) → (c ≡ true → r.requirement ≡ b.requirement) →
    all_rows (cond c (band b.requirement (line_in r ∷ b.lines) ∷ bands) (alone r ∷ b ∷ bands)) ≡ r ∷ all_rows (b ∷ bands)
rows_onto_so r b bands true e = ap (λ (s : Row). s ∷ all_rows (b ∷ bands)) (itself r b.requirement (e refl))
rows_onto_so r b bands false e = refl

rows_onto : (r : Row) (bands : List Band) → all_rows (onto r bands) ≡ r ∷ all_rows bands
rows_onto r [] = refl
rows_onto r (b ∷ bands) = rows_onto_so r b bands (bytes_eq r.requirement b.requirement) (same r.requirement b.requirement)

pub rows_grouped : (rows : List Row) → all_rows (grouped rows) ≡ rows
rows_grouped [] = refl
rows_grouped (r ∷ rows) = rows_onto r (grouped rows) ∙ ap (λ (rs : List Row). r ∷ rs) (rows_grouped rows)

-- each has a row
abbrev pub HaveRows : List Band → Type 0
HaveRows bands = AllByRecursion (λ (b : Band). 0 < length b.lines) bands

have_onto_so : (r : Row) (b : Band) (bands : List Band) (c : Bool) → HaveRows (b ∷ bands) → HaveRows (cond c (band b.requirement (line_in r ∷ b.lines) ∷ bands) (alone r ∷ b ∷ bands))
have_onto_so r b bands true h = (omega arith, h.1)
have_onto_so r b bands false h = (omega arith, h)

have_onto : (r : Row) (bands : List Band) → HaveRows bands → HaveRows (onto r bands)
have_onto r [] h = (omega arith, tt)
have_onto r (b ∷ bands) h = have_onto_so r b bands (bytes_eq r.requirement b.requirement) h

have_grouped : (rows : List Row) → HaveRows (grouped rows)
have_grouped [] = tt
have_grouped (r ∷ rows) = have_onto r (grouped rows) (have_grouped rows)

pub none_empty : (rows : List Row) → All (λ (b : Band). 0 < length b.lines) (grouped rows)
none_empty rows = All-from_recursion (λ (b : Band). 0 < length b.lines) (grouped rows) (have_grouped rows)

-- ---- groups ascend

-- not above
abbrev AtMost : List ℕ → List ℕ → Type 0
AtMost x y = (text_cmp x y ≡ Less) ⊎ (x ≡ y)

at_most_so : (x y : List ℕ) (o more : Ordering) → text_cmp x y ≡ o → ordering_then o more ≡ Less → AtMost x y
at_most_so x y Less more e h = inl e
at_most_so x y Equal more e h = inr (same x y (texts_ties x y ∙ ap is_eq e))
at_most_so x y Greater more e h = absurd (let bad : Greater ≡ Less = h in cc)

at_most : (r s : Row) → row_cmp r s ≡ Less → AtMost r.requirement s.requirement
at_most r s h = at_most_so r.requirement s.requirement (text_cmp r.requirement s.requirement) (ordering_then (text_cmp r.name s.name) (text_cmp r.version s.version)) refl h

abbrev Behind : List ℕ → List Band → Type 0
Behind q bands = AllByRecursion (λ (b : Band). AtMost q b.requirement) bands

behind_onto_so : (q : List ℕ) (r : Row) (b : Band) (bands : List Band) (c : Bool) → AtMost q r.requirement → Behind q (b ∷ bands) → Behind q (cond c (band b.requirement (line_in r ∷ b.lines) ∷ bands) (alone r ∷ b ∷ bands))
behind_onto_so q r b bands true h k = k
behind_onto_so q r b bands false h k = (h, k)

behind_onto : (q : List ℕ) (r : Row) (bands : List Band) → AtMost q r.requirement → Behind q bands → Behind q (onto r bands)
behind_onto q r [] h k = (h, tt)
behind_onto q r (b ∷ bands) h k = behind_onto_so q r b bands (bytes_eq r.requirement b.requirement) h k

behind_grouped : (q : Row) (rows : List Row) → AllByRecursion (λ r. row_cmp q r ≡ Less) rows → Behind q.requirement (grouped rows)
behind_grouped q [] h = tt
behind_grouped q (r ∷ rows) h = behind_onto q.requirement r (grouped rows) (at_most q r h.0) (behind_grouped q rows h.1)

-- strictly below, where it is not above and another
below : (x y : List ℕ) → bytes_eq x y ≡ false → AtMost x y → text_cmp x y ≡ Less
below x y e (inl h) = h
below x y e (inr h) = absurd (let equal : bytes_eq x y ≡ true = (bytes_eq-Decides x y).1 h in cc)

abbrev Above : List ℕ → List (List ℕ) → Type 0
Above q names = AllByRecursion (λ y. text_cmp q y ≡ Less) names

above_all : (x y : List ℕ) (names : List (List ℕ)) → text_cmp x y ≡ Less → Above y names → Above x names
above_all x y [] e h = tt
above_all x y (z ∷ names) e h = (nat_list_cmp_total.trans x y z e h.0, above_all x y names e h.1)

abbrev pub NamesAscend : List Band → Type 0
NamesAscend bands = IsStrictlySortedBy text_cmp (names_of bands)

names_onto_so : (r : Row) (b : Band) (bands : List Band) (c : Bool) → bytes_eq r.requirement b.requirement ≡ c → Behind r.requirement (b ∷ bands) → NamesAscend (b ∷ bands) →
    NamesAscend (cond c (band b.requirement (line_in r ∷ b.lines) ∷ bands) (alone r ∷ b ∷ bands))
unfolding IsStrictlySortedBy
names_onto_so r b bands true e k h = h
names_onto_so r b bands false e k h =
    let first = below r.requirement b.requirement e k.0 in
    ((first, above_all r.requirement b.requirement (names_of bands) first h.0), h)

names_onto : (r : Row) (bands : List Band) → Behind r.requirement bands → NamesAscend bands → NamesAscend (onto r bands)
unfolding IsStrictlySortedBy
names_onto r [] k h = (tt, tt)
names_onto r (b ∷ bands) k h = names_onto_so r b bands (bytes_eq r.requirement b.requirement) refl k h

pub names_grouped : (rows : List Row) → IsStrictlySortedBy row_cmp rows → NamesAscend (grouped rows)
unfolding IsStrictlySortedBy
names_grouped [] h = tt
names_grouped (r ∷ rows) h = names_onto r (grouped rows) (behind_grouped r rows h.0) (names_grouped rows h.1)
