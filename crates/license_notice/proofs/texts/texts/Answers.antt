use Rattle.std.proofs.Common.{ℕ, List, Contains, sym, subst}
use Rattle.std.specs.Borrow.{Bor}
use Rattle.std.specs.Cmp.Lexicographic.{on_texts, on_texts_equal, texts_ties}
use Rattle.std.specs.Str.{bytes_eq}
use Rattle.std.proofs.lemmas.List.Filters.{dedup_is}
use Rattle.std.proofs.lemmas.List.Kept.{IsStrictlySortedBy-dedup}
use Rattle.license_notice.specs.Rows.{text_cmp}
use Rattle.license_notice.proofs.Bands.{same}
use Rattle.license_notice.proofs.Ordered.{sorted_map, kept, added_none}
use Rattle.license_notice.proofs.texts.texts.Goals as goal

abbrev text_of : Bor (List ℕ) → List ℕ
text_of t = t.now

pub returns-clause-ascend : goal.returns-clause-ascend
returns-clause-ascend c =
    rw (dedup_is _ _ _ c.dedup.ensures.filtered)
    (sorted_map text_of text_cmp _ (IsStrictlySortedBy-dedup (on_texts text_of) (λ x y. texts_ties x.now y.now) _ c.sort_unstable.ensures.sorted))

pub returns-clause-keeps : goal.returns-clause-keeps
returns-clause-keeps c t h =
    rw (dedup_is _ _ _ c.dedup.ensures.filtered)
    (kept text_of (on_texts_equal text_of) (λ x y. same x.now y.now) _ _ c.sort_unstable.ensures.permutation t (subst (λ (texts : List (List ℕ)). Contains texts t) (sym c.in_ok-texts.ensures) h))

pub returns-clause-adds_none : goal.returns-clause-adds_none
returns-clause-adds_none c t h =
    subst (λ (texts : List (List ℕ)). Contains texts t) c.in_ok-texts.ensures
    (added_none text_of (λ x y. bytes_eq x.now y.now) _ _ c.sort_unstable.ensures.permutation t (rw (dedup_is _ _ _ c.dedup.ensures.filtered) at h))
