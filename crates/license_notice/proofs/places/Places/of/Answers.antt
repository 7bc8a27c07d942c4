use Rattle.std.proofs.Common.{rules, of_calls, ◌≡◌, ◌-◌, List, Bool, true, false, length, take, drop, map, ap, ◌∙◌, sym, arith}
use Rattle.std.specs.Prelude.{filter}
use Rattle.std.specs.List.Sorted.{IsPartitionedBy, IsPartitionPoint}
use Rattle.std.proofs.lemmas.List.{take_all, length-drop}
use Rattle.std.proofs.lemmas.Fn.{always_returns_same}
use Rattle.std.specs.Ordering.{is_lt, is_le}
use Rattle.license_notice.specs.declared.places.Place.{Place}
use Rattle.license_notice.specs.Notices.{line_of}
use Rattle.license_notice.specs.Once.{line_cmp}
use Rattle.license_notice.specs.Places.{place_cmp, is_of}
use Rattle.license_notice.proofs.Cuts.{cut, parted, sorted_drop}
use Rattle.license_notice.proofs.Standing.{closed_lt, closed_le, before_none, at_all, behind_none}
use Rattle.license_notice.proofs.places.Places.of.Goals as goal

pub returns : goal.returns
returns c lists are =
    let rows = c.args.self.now.rows.items in
    let l = line_of c.args.release.now in
    let p : Place → Bool = λ x. is_lt (line_cmp (line_of x.release) l) in
    let q : Place → Bool = λ x. is_le (line_cmp (line_of x.release) l) in
    let start : IsPartitionPoint (λ y. p y ≡ true) (λ y. p y ≡ false) rows c.partition_point-before.result = rw c.deref.ensures.value at (c.partition_point-before.ensures.partitioned p (always_returns_same _ _ _ (λ a r f m. search (rules, of_calls))) (rw c.deref.ensures.value (parted place_cmp p (closed_lt l) rows are.ascend))) in
    let i = c.partition_point-before.result in
    let k = c.partition_point-len.result in
    let whole : take (length rows - i) (drop i rows) ≡ drop i rows = take_all (length rows - i) (drop i rows) (omega (arith, length-drop i rows)) in
    let sorted : IsPartitionedBy q (take (length rows - i) (drop i rows)) = rw whole (parted place_cmp q (closed_le l) (drop i rows) (sorted_drop place_cmp i rows are.ascend)) in
    let point : IsPartitionPoint (λ y. q y ≡ true) (λ y. q y ≡ false) (take (length rows - i) (drop i rows)) k = rw c.deref-2.ensures.value at (c.partition_point-len.ensures.partitioned q (always_returns_same _ _ _ (λ a r f m. search (rules, of_calls))) (rw c.deref-2.ensures.value sorted)) in
    let second : IsPartitionPoint (λ y. q y ≡ true) (λ y. q y ≡ false) (drop i rows) k = rw whole at point in
    let found : map (λ (x : Place). x.number) (take k (drop i rows)) ≡ map (λ (x : Place). x.number) (filter (is_of l) rows) =
    ap (λ (ps : List Place). map (λ (x : Place). x.number) ps) (sym (cut p q (is_of l) (before_none l) (at_all l) (behind_none l) rows i k start second)) in
    rw c.deref-2.ensures.value (ap (λ (ps : List Place). map (λ (x : Place). x.number) (take k ps)) whole ∙ found ∙ are.each l)
