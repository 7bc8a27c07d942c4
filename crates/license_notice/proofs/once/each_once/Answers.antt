use Rattle.std.proofs.Common.{◌≡◌, refl, ◌&&◌, Bool, true, false}
use Rattle.std.specs.Cmp.{IsTotalOrder, IsEquivalence, both_tied}
use Rattle.std.specs.Cmp.Lexicographic.{on_texts, on_texts_equal, texts_ties}
use Rattle.std.specs.Ordering.{eq_by_cmp}
use Rattle.std.specs.Str.{bytes_eq}
use Rattle.std.proofs.lemmas.Cmp.{then_total, and_equiv}
use Rattle.std.proofs.lemmas.List.Filters.{dedup_is}
use Rattle.std.proofs.lemmas.List.Kept.{IsStrictlySortedBy-dedup}
use Rattle.license_notice.specs.declared.packages.Release.{Release}
use Rattle.license_notice.specs.Once.{line_cmp}
use Rattle.license_notice.specs.Notices.{line_of}
use Rattle.license_notice.proofs.Bands.{same}
use Rattle.license_notice.proofs.Ordered.{sorted_map, kept, added_none}
use Rattle.license_notice.proofs.once.each_once.Goals as goal

abbrev by_lines : Release → Release → Bool
by_lines x y = bytes_eq x.name.now y.name.now && bytes_eq x.version.now y.version.now

total : IsTotalOrder (λ (x : Release) (y : Release). line_cmp (line_of x) (line_of y))
total = then_total (on_texts (λ (s : Release). s.name.now)) (on_texts (λ s. s.version.now))

equal : IsEquivalence by_lines
equal = and_equiv (on_texts_equal (λ (s : Release). s.name.now)) (on_texts_equal (λ s. s.version.now))

tied : (x y : Release) → by_lines x y ≡ eq_by_cmp (λ (x : Release) (y : Release). line_cmp (line_of x) (line_of y)) x y
tied x y = both_tied _ _ _ _ (texts_ties x.name.now y.name.now) (texts_ties x.version.now y.version.now)

both_true : (a b : Bool) → (a && b) ≡ true → (a ≡ true) × (b ≡ true)
both_true true b h = (refl, h)
both_true false b h = absurd (let bad : false ≡ true = h in cc)

lines_of_parts : (x y : Release) → (bytes_eq x.name.now y.name.now ≡ true) × (bytes_eq x.version.now y.version.now ≡ true) → line_of x ≡ line_of y
lines_of_parts x y h =
    let n = same x.name.now y.name.now h.0 in
    let v = same x.version.now y.version.now h.1 in
    cc

same_lines : (x y : Release) → by_lines x y ≡ true → line_of x ≡ line_of y
same_lines x y h = lines_of_parts x y (both_true (bytes_eq x.name.now y.name.now) _ h)

pub returns : goal.returns
returns c = record {
  ascend = rw (dedup_is _ _ _ c.dedup.ensures.filtered) (sorted_map line_of line_cmp _ (IsStrictlySortedBy-dedup total tied _ c.sort_unstable.ensures.sorted));
  same = λ l. (
    λ h. added_none line_of by_lines _ _ c.sort_unstable.ensures.permutation l (rw (dedup_is _ _ _ c.dedup.ensures.filtered) at h),
    λ h. rw (dedup_is _ _ _ c.dedup.ensures.filtered) (kept line_of equal same_lines _ _ c.sort_unstable.ensures.permutation l h),
  );
}
