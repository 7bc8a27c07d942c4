use Rattle.std.proofs.Common.{◌≡◌, ◌↔◌, ℕ, List, map, sym, ◌∙◌, ap, subst}
use Rattle.std.specs.Borrow.{Bor}
use Rattle.std.specs.Cmp.Lexicographic.{on_texts, on_texts_equal, texts_ties}
use Rattle.std.specs.Str.{bytes_eq}
use Rattle.std.proofs.lemmas.List.Filters.{dedup_is}
use Rattle.std.proofs.lemmas.List.Kept.{IsStrictlySortedBy-dedup}
use Rattle.std.proofs.lemmas.Slice.Eq.{bytes_eq-Decides}
use Rattle.package_files.specs.declared.mentions.Mention.{Mention}
use Rattle.package_files.specs.Documents.{Shared, text_cmp, documents_of}
use Rattle.package_files.specs.Mentions.{MentionRow, Twice, mention_row, mentions_from}
use Rattle.package_files.proofs.Noted.{shared_twice, twice_shared}
use Rattle.package_files.proofs.Ordered.{sorted_map, kept, added_none}
use Rattle.package_files.proofs.shared.shared_references.Goals as goal

abbrev text_of : Bor (List ℕ) → List ℕ
text_of t = t.now

pub returns-clause-ascend : goal.returns-clause-ascend
returns-clause-ascend c =
    rw (dedup_is _ _ _ c.dedup.ensures.filtered)
    (sorted_map text_of text_cmp _ (IsStrictlySortedBy-dedup (on_texts text_of) (λ x y. texts_ties x.now y.now) _ c.sort_unstable.ensures.sorted))

pub returns-clause-told : goal.returns-clause-told
returns-clause-told c = λ r.
    let documents = documents_of c.args.documents.now in
    let all : map mention_row c.as_slice.result.now ≡ mentions_from 0 documents =
    ap (λ (ms : List Mention). map mention_row ms) c.as_slice.ensures.value ∙ c.in_ok-mentions.ensures in
    let both : (ms : List MentionRow) → ms ≡ mentions_from 0 documents → Twice ms r ↔ Shared documents r =
    λ ms e. (
      (λ h. twice_shared documents r (subst (λ (ns : List MentionRow). Twice ns r) e h)),
      (λ h. subst (λ (ns : List MentionRow). Twice ns r) (sym e) (shared_twice documents r h)),
    ) in (
      (λ h. (both _ all).0 ((c.in_ok-shared.ensures r).0
          (added_none text_of (λ x y. bytes_eq x.now y.now) _ _ c.sort_unstable.ensures.permutation r (rw (dedup_is _ _ _ c.dedup.ensures.filtered) at h)))),
      (λ h. rw (dedup_is _ _ _ c.dedup.ensures.filtered)
          (kept text_of (on_texts_equal text_of) (λ x y. (bytes_eq-Decides x.now y.now).0) _ _ c.sort_unstable.ensures.permutation r
          ((c.in_ok-shared.ensures r).1 ((both _ all).1 h)))),
    )
