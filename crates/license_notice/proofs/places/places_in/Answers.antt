use Rattle.std.proofs.Common.{◌≡◌, ℕ, List, Contains, map, Bool, ◌&&◌, true, sym, ap, ◌∙◌, subst}
use Rattle.std.specs.Borrow.{Bor}
use Rattle.std.specs.Cmp.{IsTotalOrder, IsEquivalence, both_tied, unsigned_ties}
use Rattle.std.specs.Cmp.Lexicographic.{on_texts, on_texts_equal}
use Rattle.std.specs.List.Sorted.{IsStrictlySortedBy}
use Rattle.std.specs.Ordering.{eq_by_cmp}
use Rattle.std.specs.Prelude.{nat_eq}
use Rattle.std.proofs.lemmas.Cmp.{then_total, on_total, nat_cmp_total, and_equiv, on_equiv, nat_eq_equiv}
use Rattle.std.proofs.lemmas.List.Filters.{dedup_is}
use Rattle.std.proofs.lemmas.List.Kept.{IsStrictlySortedBy-dedup}
use Rattle.license_notice.specs.declared.packages.Release.{Release}
use Rattle.license_notice.specs.declared.places.Place.{Place}
use Rattle.license_notice.specs.Notices.{line_of}
use Rattle.license_notice.specs.Places.{same_line, numbers_from, place_cmp}
use Rattle.license_notice.proofs.Ordered.{sorted_map, kept, added_none}
use Rattle.license_notice.proofs.Standing.{seat_of, seat_cmp, tied, alike, same_number, both_parts, places_are, lines_seen}
use Rattle.license_notice.proofs.places.places_in.Goals as goal

abbrev by_places : Place → Place → Bool
by_places x y = same_line (line_of x.release) (line_of y.release) && nat_eq x.number y.number

total : IsTotalOrder place_cmp
total = then_total (then_total (on_texts (λ (p : Place). p.release.name.now)) (on_texts (λ p. p.release.version.now))) (on_total (λ (p : Place). p.number) nat_cmp_total)

equal : IsEquivalence by_places
equal = and_equiv (and_equiv (on_texts_equal (λ (p : Place). p.release.name.now)) (on_texts_equal (λ p. p.release.version.now))) (on_equiv (λ (p : Place). p.number) nat_eq_equiv)

ties : (x y : Place) → by_places x y ≡ eq_by_cmp place_cmp x y
ties x y = both_tied _ _ _ _ (tied (line_of x.release) (line_of y.release)) (unsigned_ties x.number y.number)

same_seats : (x y : Place) → by_places x y ≡ true → seat_of x ≡ seat_of y
same_seats x y h =
    let both = both_parts (same_line (line_of x.release) (line_of y.release)) (nat_eq x.number y.number) h in
    let n = same_number x.number y.number both.1 in
    ap (λ l. (l, x.number)) (alike (line_of x.release) (line_of y.release) both.0) ∙ ap (λ (k : ℕ). (line_of y.release, k)) n

pub returns : goal.returns
returns c =
    let rows = dedup_is _ _ _ c.dedup.ensures.filtered in
    let all = c.in_ok-rows.ensures in
    let ascends : IsStrictlySortedBy place_cmp c.dedup.new.self.items = rw rows (IsStrictlySortedBy-dedup total ties _ c.sort_unstable.ensures.sorted) in
    record {
      ascend = ascends;
      each = λ l.
          places_are _ (map (λ (rs : Bor (List Release)). rs.now) c.args.lists.now) (sorted_map seat_of seat_cmp _ ascends)
          (λ s h. subst (λ (ps : List Place). Contains (map seat_of ps) s) all (added_none seat_of by_places _ _ c.sort_unstable.ensures.permutation s (rw rows at h)))
          (λ s h. rw rows (kept seat_of equal same_seats _ _ c.sort_unstable.ensures.permutation s (subst (λ (ps : List Place). Contains (map seat_of ps) s) (sym all) h)))
          l
          ∙ ap (λ ls. numbers_from 0 ls l) (lines_seen c.args.lists.now);
    }
