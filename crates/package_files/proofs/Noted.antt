-- What is known of the mentions that a loop went over, and which references two documents have.
use Rattle.std.proofs.Common.{◌≡◌, ℕ, zero, suc, ◌+◌, ◌<◌, Bool, true, false, cond, List, [], ◌∷◌, ◌++◌, Contains, Option, Some, None, ◌⊎◌, inl, inr, refl, sym, ap, ◌∙◌, subst, arith}
use Rattle.std.specs.Str.{bytes_eq}
use Rattle.std.proofs.lemmas.List.Elements.{Contains-append_left, Contains-append_right, Contains-append_cases, Contains-push, Contains-push_cases}
use Rattle.std.proofs.lemmas.Bool.{cases_order}
use Rattle.std.proofs.lemmas.Slice.Eq.{bytes_eq-Decides}
use Rattle.package_items.specs.Rows.{PackageRow}
use Rattle.package_files.specs.Documents.{references_of, Has, Shared}
use Rattle.package_files.specs.Mentions.{MentionRow, mention, mentions_in, mentions_from, Twice, AreNoted}
use Rattle.package_files.proofs.Ordered.{view_of, behind_view}

pub none : (first : List ℕ → Option ℕ) → ((r : List ℕ) → first r ≡ None) → AreNoted [] first []
none first empty = record {
  seen = λ r d h. absurd (omega (arith, h.1));
  known = λ r d h. absurd (let bad : None ≡ Some d = sym (empty r) ∙ h in cc);
  only = λ r h. absurd (omega (arith, h.1));
}

more : (ms : List MentionRow) (m : MentionRow) (r : List ℕ) → Twice ms r → Twice (ms ++ m ∷ []) r
more ms m r (d, (e, (apart, one, other))) =
    (d, (e, (apart, Contains-append_left ms (m ∷ []) (mention d r) one, Contains-append_left ms (m ∷ []) (mention e r) other)))

-- a mention that the map has already
pub again : (ms : List MentionRow) (first : List ℕ → Option ℕ) (told : List (List ℕ)) (m : MentionRow) → AreNoted ms first told → first m.reference ≡ Some m.document →
    AreNoted (ms ++ m ∷ []) first told
again ms first told m h same = record {
  seen = λ r d at. elim (Contains-push_cases ms m (mention d r) at) [ inl old ↦ h.seen r d old | inr e ↦ inl (subst (λ (x : MentionRow). first x.reference ≡ Some x.document) e same) ];
  known = λ r d at. Contains-append_left ms (m ∷ []) (mention d r) (h.known r d at);
  only = λ r at. more ms m r (h.only r at);
}

-- one of another document
pub of_other : (ms : List MentionRow) (first : List ℕ → Option ℕ) (told : List (List ℕ)) (m : MentionRow) (d : ℕ) → AreNoted ms first told → first m.reference ≡ Some d → (d ≡ m.document → ⊥) →
    AreNoted (ms ++ m ∷ []) first (told ++ m.reference ∷ [])
of_other ms first told m d h same apart = record {
  seen = λ r e at. elim (Contains-push_cases ms m (mention e r) at) [ inl old ↦ kept r e (h.seen r e old) | inr is ↦ inr (subst (Contains (told ++ m.reference ∷ [])) (ap (λ (x : MentionRow). x.reference) is) (Contains-push told m.reference)) ];
  known = λ r e at. Contains-append_left ms (m ∷ []) (mention e r) (h.known r e at);
  only = λ r at. elim (Contains-push_cases told m.reference r at) [ inl old ↦ more ms m r (h.only r old) | inr is ↦ subst (Twice (ms ++ m ∷ [])) is two ];
}
  where
    kept : (r : List ℕ) (e : ℕ) → (first r ≡ Some e) ⊎ Contains told r → (first r ≡ Some e) ⊎ Contains (told ++ m.reference ∷ []) r
    kept r e (inl at) = inl at
    kept r e (inr at) = inr (Contains-append_left told (m.reference ∷ []) r at)

    two : Twice (ms ++ m ∷ []) m.reference
    two = (d, (m.document, (apart, Contains-append_left ms (m ∷ []) (mention d m.reference) (h.known m.reference d same), Contains-push ms m)))

-- one that the map lacks, and has then
pub new : (ms : List MentionRow) (first after : List ℕ → Option ℕ) (told : List (List ℕ)) (m : MentionRow) → AreNoted ms first told → first m.reference ≡ None →
    ((r : List ℕ) → after r ≡ cond (bytes_eq m.reference r) (Some m.document) (first r)) → AreNoted (ms ++ m ∷ []) after told
new ms first after told m h lacked changed = record {
  seen = λ r d at. elim (Contains-push_cases ms m (mention d r) at) [ inl old ↦ kept r d (h.seen r d old) | inr is ↦ inl (subst (λ (x : MentionRow). after x.reference ≡ Some x.document) is mine) ];
  known = λ r d at. back r d (bytes_eq m.reference r) (bytes_eq-Decides m.reference r).0 (sym (changed r) ∙ at);
  only = λ r at. more ms m r (h.only r at);
}
  where
    mine : after m.reference ≡ Some m.document
    mine = let itself = (bytes_eq-Decides m.reference m.reference).1 refl in changed m.reference ∙ rw itself refl

    still : (r : List ℕ) (d : ℕ) (c : Bool) → (c ≡ true → m.reference ≡ r) → first r ≡ Some d → cond c (Some m.document) (first r) ≡ Some d
    still r d true same at = absurd (let bad : None ≡ Some d = sym (subst (λ (x : List ℕ). first x ≡ None) (same refl) lacked) ∙ at in cc)
    still r d false same at = at

    kept : (r : List ℕ) (d : ℕ) → (first r ≡ Some d) ⊎ Contains told r → (after r ≡ Some d) ⊎ Contains told r
    kept r d (inl at) = inl (changed r ∙ still r d (bytes_eq m.reference r) (bytes_eq-Decides m.reference r).0 at)
    kept r d (inr at) = inr at

    back : (r : List ℕ) (d : ℕ) (c : Bool) → (c ≡ true → m.reference ≡ r) → cond c (Some m.document) (first r) ≡ Some d → Contains (ms ++ m ∷ []) (mention d r)
    back r d true same at =
        let document : m.document ≡ d = cc in
        let is : m ≡ mention d r = ap (λ (x : List ℕ). mention m.document x) (same refl) ∙ ap (λ (e : ℕ). mention e r) document in
        subst (Contains (ms ++ m ∷ [])) is (Contains-push ms m)
    back r d false same at = Contains-append_left ms (m ∷ []) (mention d r) (h.known r d at)

-- at the end what is told is what two documents mention
pub is_told : (ms : List MentionRow) (first : List ℕ → Option ℕ) (told : List (List ℕ)) → AreNoted ms first told → (r : List ℕ) → Twice ms r → Contains told r
is_told ms first told h r (d, (e, (apart, one, other))) = by (h.seen r d one) (h.seen r e other)
  where
    by : (first r ≡ Some d) ⊎ Contains told r → (first r ≡ Some e) ⊎ Contains told r → Contains told r
    by (inr at) y = at
    by (inl x) (inr at) = at
    by (inl x) (inl y) = absurd (apart (let both : Some d ≡ Some e = sym x ∙ y in cc))

-- ---- mentions and documents

-- a document of that number, counted from n, has it
abbrev HasFrom : ℕ → List (List PackageRow) → ℕ → List ℕ → Type 0
HasFrom n ds k r = (i : ℕ) × ((k ≡ n + i) × Has ds i r)

in_first : (n : ℕ) (d : List PackageRow) (ds : List (List PackageRow)) (k : ℕ) (r : List ℕ) → Contains (mentions_in n d) (mention k r) → HasFrom n (d ∷ ds) k r
in_first n d ds k r at =
    let found = behind_view (mention n) (references_of d) (mention k r) at in
    let same : found.0 ≡ r = ap (λ (m : MentionRow). m.reference) found.1.1 in
    let number : n ≡ k = ap (λ (m : MentionRow). m.document) found.1.1 in
    (0, (omega arith, (omega arith, subst (Contains (references_of d)) same found.1.0)))

in_rest : (n : ℕ) (d : List PackageRow) (ds : List (List PackageRow)) (k : ℕ) (r : List ℕ) → HasFrom (suc n) ds k r → HasFrom n (d ∷ ds) k r
in_rest n d ds k r (i, (number, (low, at))) = (suc i, (omega arith, (omega arith, at)))

pub has_mentioned : (n : ℕ) (ds : List (List PackageRow)) (k : ℕ) (r : List ℕ) → Contains (mentions_from n ds) (mention k r) → HasFrom n ds k r
has_mentioned n [] k r h = absurd (omega (arith, h.1))
has_mentioned n (d ∷ ds) k r h =
    elim (Contains-append_cases (mentions_in n d) (mentions_from (suc n) ds) (mention k r) h) [
      | inl at ↦ in_first n d ds k r at
      | inr at ↦ in_rest n d ds k r (has_mentioned (suc n) ds k r at)
    ]

pub mentioned : (n : ℕ) (ds : List (List PackageRow)) (i : ℕ) (r : List ℕ) → Has ds i r → Contains (mentions_from n ds) (mention (n + i) r)
mentioned n [] i r (low, at) = absurd (omega arith)
mentioned n (d ∷ ds) zero r (low, at) =
    let first : n ≡ n + 0 = omega arith in
    Contains-append_left (mentions_in n d) (mentions_from (suc n) ds) (mention (n + 0) r)
    (subst (λ (k : ℕ). Contains (mentions_in n d) (mention k r)) first (view_of (mention n) (references_of d) r at))
mentioned n (d ∷ ds) (suc i) r (low, at) =
    let number : suc n + i ≡ n + suc i = omega arith in
    Contains-append_right (mentions_in n d) (mentions_from (suc n) ds) (mention (n + suc i) r)
    (subst (λ (k : ℕ). Contains (mentions_from (suc n) ds) (mention k r)) number (mentioned (suc n) ds i r (omega arith, at)))

in_order : (ds : List (List PackageRow)) (r : List ℕ) (i j : ℕ) → Has ds i r → Has ds j r → (i ≡ j) ⊎ ((i < j) ⊎ (j < i)) → (i ≡ j → ⊥) → Shared ds r
in_order ds r i j here there (inl same) apart = absurd (apart same)
in_order ds r i j here there (inr (inl low)) apart = (i, (j, (low, here, there)))
in_order ds r i j here there (inr (inr low)) apart = (j, (i, (low, there, here)))

pub twice_shared : (ds : List (List PackageRow)) (r : List ℕ) → Twice (mentions_from 0 ds) r → Shared ds r
twice_shared ds r (d, (e, (apart, one, other))) = by (has_mentioned 0 ds d r one) (has_mentioned 0 ds e r other)
  where
    by : HasFrom 0 ds d r → HasFrom 0 ds e r → Shared ds r
    by (i, (x, here)) (j, (y, there)) = in_order ds r i j here there (cases_order i j) (λ same. apart (omega arith))

pub shared_twice : (ds : List (List PackageRow)) (r : List ℕ) → Shared ds r → Twice (mentions_from 0 ds) r
shared_twice ds r (i, (j, (low, here, there))) =
    let apart : 0 + i ≡ 0 + j → ⊥ = λ same. absurd (omega arith) in
    (0 + i, (0 + j, (apart, mentioned 0 ds i r here, mentioned 0 ds j r there)))
