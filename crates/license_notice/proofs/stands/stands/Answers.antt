use Rattle.std.proofs.Common.{◌≡◌, ℕ, Contains, refl, sym, subst, ap, ◌&&◌, Bool, true, false, ◌∙◌, List}
use Rattle.std.specs.Cmp.{IsTotalOrder, IsEquivalence, both_tied}
use Rattle.std.specs.Cmp.Lexicographic.{on_texts, on_texts_equal, texts_ties}
use Rattle.std.specs.Ordering.{eq_by_cmp}
use Rattle.std.specs.Str.{bytes_eq}
use Rattle.std.proofs.lemmas.Cmp.{then_total, and_equiv}
use Rattle.std.proofs.lemmas.List.Filters.{dedup_is}
use Rattle.std.proofs.lemmas.List.Kept.{IsStrictlySortedBy-dedup}
use Rattle.license_notice.specs.declared.stands.Stand.{Stand}
use Rattle.license_notice.specs.Rows.{Row, row, row_cmp}
use Rattle.license_notice.specs.Stands.{row_of}
use Rattle.license_notice.proofs.Bands.{same}
use Rattle.license_notice.proofs.Ordered.{sorted_map, kept, added_none}
use Rattle.license_notice.proofs.stands.stands.Goals as goal

abbrev by_rows : Stand → Stand → Bool
by_rows x y =
    bytes_eq x.requirement.now y.requirement.now && (bytes_eq x.name.now y.name.now && bytes_eq x.version.now y.version.now)

total : IsTotalOrder (λ (x : Stand) (y : Stand). row_cmp (row_of x) (row_of y))
total = then_total (on_texts (λ (s : Stand). s.requirement.now)) (then_total (on_texts (λ s. s.name.now)) (on_texts (λ s. s.version.now)))

equal : IsEquivalence by_rows
equal = and_equiv (on_texts_equal (λ (s : Stand). s.requirement.now)) (and_equiv (on_texts_equal (λ s. s.name.now)) (on_texts_equal (λ s. s.version.now)))

tied : (x y : Stand) → by_rows x y ≡ eq_by_cmp (λ (x : Stand) (y : Stand). row_cmp (row_of x) (row_of y)) x y
tied x y =
    both_tied _ _ _ _ (texts_ties x.requirement.now y.requirement.now) (both_tied _ _ _ _ (texts_ties x.name.now y.name.now) (texts_ties x.version.now y.version.now))

both_true : (a b : Bool) → (a && b) ≡ true → (a ≡ true) × (b ≡ true)
both_true true b h = (refl, h)
both_true false b h = absurd (let bad : false ≡ true = h in cc)

rows_of_parts : (x y : Stand) → (bytes_eq x.requirement.now y.requirement.now ≡ true) × ((bytes_eq x.name.now y.name.now && bytes_eq x.version.now y.version.now) ≡ true) → row_of x ≡ row_of y
rows_of_parts x y h =
    let more = both_true (bytes_eq x.name.now y.name.now) (bytes_eq x.version.now y.version.now) h.1 in
    let r = same x.requirement.now y.requirement.now h.0 in
    let n = same x.name.now y.name.now more.0 in
    let v = same x.version.now y.version.now more.1 in
    ap (λ (t : List ℕ). row t x.name.now x.version.now) r ∙ ap (λ (t : List ℕ). row y.requirement.now t x.version.now) n ∙ ap (row y.requirement.now y.name.now) v

same_rows : (x y : Stand) → by_rows x y ≡ true → row_of x ≡ row_of y
same_rows x y h = rows_of_parts x y (both_true (bytes_eq x.requirement.now y.requirement.now) _ h)

pub returns-clause-ascend : goal.returns-clause-ascend
returns-clause-ascend c =
    rw (dedup_is _ _ _ c.dedup.ensures.filtered) (sorted_map row_of row_cmp _ (IsStrictlySortedBy-dedup total tied _ c.sort_unstable.ensures.sorted))

pub returns-clause-keeps : goal.returns-clause-keeps
returns-clause-keeps c r h =
    rw (dedup_is _ _ _ c.dedup.ensures.filtered)
    (kept row_of equal same_rows _ _ c.sort_unstable.ensures.permutation r (subst (λ (rows : List Row). Contains rows r) (sym c.in_ok-stands.ensures) h))

pub returns-clause-adds_none : goal.returns-clause-adds_none
returns-clause-adds_none c r h =
    subst (λ (rows : List Row). Contains rows r) c.in_ok-stands.ensures
    (added_none row_of by_rows _ _ c.sort_unstable.ensures.permutation r (rw (dedup_is _ _ _ c.dedup.ensures.filtered) at h))
