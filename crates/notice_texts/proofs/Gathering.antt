-- What is gathered: each text once, with all files that have it.
use Rattle.std.proofs.Common.{◌≡◌, ℕ, zero, suc, Bool, true, false, cond, List, [], ◌∷◌, Contains, map, refl, ap, ◌∙◌, subst, arith}
use Rattle.std.specs.Prelude.{not, bytes_eq, filter}
use Rattle.std.specs.List.{list_any}
use Rattle.std.proofs.lemmas.Cmp.{nat_list_eq_equiv}
use Rattle.notice_texts.specs.Words.{lines_of_words, is_same}
use Rattle.notice_texts.specs.Shared.{Held, Own, Shared, holders_of, firsts, gathered, EachStands, IsOfFiles, NothingElse, AreApart}
use Rattle.notice_texts.specs.Entries as entries
use Rattle.notice_texts.specs.Entries.{Entry, entry, shared_by, holders_under}
use Rattle.notice_texts.proofs.Holding.{equal}
use Rattle.notice_texts.proofs.Viewed.{view_of, behind_view, view_view, view_same, filter_view, behind, keeps, within, none_left, none_kept, any_view}

abbrev shared_in : List Own → Own → Shared
shared_in texts t = record { bytes = t.bytes; holders = holders_of t.bytes texts }

firsts_view : (texts : List Own) → entries.firsts (map entry texts) ≡ map entry (firsts texts)
firsts_view [] = refl
firsts_view (t ∷ texts) =
    ap (λ (es : List Entry). entry t ∷ filter (λ (f : Entry). not (bytes_eq (lines_of_words t.bytes) f.key)) es) (firsts_view texts)
    ∙ ap (λ (es : List Entry). entry t ∷ es) (filter_view (λ (f : Entry). not (bytes_eq (lines_of_words t.bytes) f.key)) entry (firsts texts))

under_view : (q : List ℕ) (texts : List Own) → holders_under q (map entry texts) ≡ map (λ (t : Own). t.holder) (filter (λ (t : Own). bytes_eq q (lines_of_words t.bytes)) texts)
under_view q texts =
    ap (map (λ (e : Entry). e.text.holder)) (filter_view (λ (e : Entry). bytes_eq q e.key) entry texts)
    ∙ view_view (λ (e : Entry). e.text.holder) entry (filter (λ (t : Own). bytes_eq q (lines_of_words t.bytes)) texts)

one_view : (texts : List Own) (t : Own) → shared_by (map entry texts) (entry t) ≡ shared_in texts t
one_view texts t =
    ap (λ (hs : List Held). let s : Shared = record { bytes = t.bytes; holders = hs } in s) (under_view (lines_of_words t.bytes) texts)

pub is_gathered : (texts : List Own) → map (shared_by (map entry texts)) (entries.firsts (map entry texts)) ≡ gathered texts
is_gathered texts =
    ap (map (shared_by (map entry texts))) (firsts_view texts)
    ∙ view_view (shared_by (map entry texts)) entry (firsts texts)
    ∙ view_same (λ (t : Own). shared_by (map entry texts) (entry t)) (shared_in texts) (one_view texts) (firsts texts)

-- ---- each stands

same_chain : (a b c : List ℕ) → is_same a b ≡ true → is_same b c ≡ true → is_same a c ≡ true
same_chain a b c h k = ap (λ (x : List ℕ). bytes_eq x (lines_of_words c)) (equal (lines_of_words a) (lines_of_words b) h) ∙ k

abbrev First : List Own → Own → Type 0
First texts t = (u : Own) × (Contains (firsts texts) u × (is_same u.bytes t.bytes ≡ true))

first_so : (s : Own) (texts : List Own) (t u : Own) → Contains (firsts texts) u → is_same u.bytes t.bytes ≡ true → (b : Bool) → is_same s.bytes u.bytes ≡ b → First (s ∷ texts) t
first_so s texts t u h k true e = (s, ((zero, omega arith, refl), same_chain s.bytes u.bytes t.bytes e k))
first_so s texts t u h k false e =
    (u, (behind s (filter (λ (v : Own). not (is_same s.bytes v.bytes)) (firsts texts)) u (keeps (λ (v : Own). not (is_same s.bytes v.bytes)) (firsts texts) u h (ap not e)), k))

first_of : (texts : List Own) (t : Own) → Contains texts t → First texts t
first_of [] t h = absurd (omega (arith, h.1))
first_of (s ∷ texts) t (zero, low, at) =
    (s, ((zero, omega arith, refl), subst (λ (u : Own). is_same s.bytes u.bytes ≡ true) at (nat_list_eq_equiv.refl (lines_of_words s.bytes))))
first_of (s ∷ texts) t (suc i, low, at) =
    let f = first_of texts t (i, omega (arith, low), at) in
    first_so s texts t f.0 f.1.0 f.1.1 (is_same s.bytes f.0.bytes) refl

pub each_stands : (texts : List Own) → EachStands texts (gathered texts)
each_stands texts t h =
    let f = first_of texts t h in
    (shared_in texts f.0, view_of (shared_in texts) (firsts texts) f.0 f.1.0, f.1.1, view_of (λ (u : Own). u.holder) (filter (λ (u : Own). is_same f.0.bytes u.bytes) texts) t (keeps (λ (u : Own). is_same f.0.bytes u.bytes) texts t h f.1.1))

-- ---- nothing else

firsts_within : (texts : List Own) (u : Own) → Contains (firsts texts) u → Contains texts u
firsts_within [] u h = h
firsts_within (t ∷ texts) u (zero, low, at) = (zero, omega arith, at)
firsts_within (t ∷ texts) u (suc i, low, at) =
    behind t texts u (firsts_within texts u (within (λ (v : Own). not (is_same t.bytes v.bytes)) (firsts texts) u (i, omega (arith, low), at)).0)

of_files : (texts : List Own) (u : Own) → Contains (firsts texts) u → IsOfFiles texts (shared_in texts u)
of_files texts u h = (
  (u, firsts_within texts u h, refl),
  λ x k.
      let at = behind_view (λ (t : Own). t.holder) (filter (λ (t : Own). is_same u.bytes t.bytes) texts) x k in
      let in_texts = within (λ (t : Own). is_same u.bytes t.bytes) texts at.0 at.1.0 in
      (at.0, in_texts.0, in_texts.1, at.1.1),
)

pub nothing_else : (texts : List Own) → NothingElse texts (gathered texts)
nothing_else texts s h =
    let at = behind_view (shared_in texts) (firsts texts) s h in
    subst (IsOfFiles texts) at.1.1 (of_files texts at.0 at.1.0)

-- ---- apart

abbrev Apart : List Own → Type 0
Apart [] = Unit {0}
Apart (t ∷ texts) = (list_any (λ (u : Own). is_same t.bytes u.bytes) texts ≡ false) × Apart texts

apart_so : (p : Own → Bool) (t : Own) (texts : List Own) (b : Bool) → (list_any (λ (u : Own). is_same t.bytes u.bytes) texts ≡ false) → Apart (filter p texts) → Apart (cond b (t ∷ filter p texts) (filter p texts))
apart_so p t texts true h k = (none_kept (λ (u : Own). is_same t.bytes u.bytes) p texts h, k)
apart_so p t texts false h k = k

apart_kept : (p : Own → Bool) (texts : List Own) → Apart texts → Apart (filter p texts)
apart_kept p [] h = tt
apart_kept p (t ∷ texts) h = apart_so p t texts (p t) h.0 (apart_kept p texts h.1)

firsts_apart : (texts : List Own) → Apart (firsts texts)
firsts_apart [] = tt
firsts_apart (t ∷ texts) =
    (none_left (λ (u : Own). is_same t.bytes u.bytes) (firsts texts), apart_kept (λ (u : Own). not (is_same t.bytes u.bytes)) (firsts texts) (firsts_apart texts))

apart_view : (all texts : List Own) → Apart texts → AreApart (map (shared_in all) texts)
apart_view all [] h = tt
apart_view all (t ∷ texts) h =
    (any_view (λ (s : Shared). is_same t.bytes s.bytes) (shared_in all) texts ∙ h.0, apart_view all texts h.1)

pub are_apart : (texts : List Own) → AreApart (gathered texts)
are_apart texts = apart_view texts (firsts texts) (firsts_apart texts)
