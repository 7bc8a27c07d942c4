-- What is known of refusals.
use Rattle.std.proofs.Common.{◌≡◌, Bool, true, false, cond, List, [], ◌∷◌, ◌++◌, map, append_assoc, refl, sym, ap, ◌∙◌, subst}
use Rattle.std.specs.Prelude.{◌||◌}
use Rattle.std.specs.Cmp.{both_tied}
use Rattle.std.specs.Cmp.Lexicographic.{texts_ties}
use Rattle.std.specs.Ordering.{eq_by_cmp}
use Rattle.std.specs.List.{AllByRecursion}
use Rattle.std.specs.BTreeSet.{BTreeSet, UpdatesBy, contains}
use Rattle.std.proofs.lemmas.List.Elements.{All-from_recursion}
use Rattle.std.proofs.lemmas.List.Folds.{list_any-append}
use Rattle.std.proofs.lemmas.Slice.Eq.{bytes_eq-Decides}
use Rattle.gate_program.specs.declared.known.Refusal.{Refusal}
use Rattle.gate_program.specs.Known.{is_same, is_known, IsEnough, Grows}
use Rattle.gate_program.specs.Sets.{refusal_cmp, Has}

tied : (x y : Refusal) → is_same x y ≡ eq_by_cmp refusal_cmp x y
tied x y = both_tied _ _ _ _ (texts_ties x.name.now y.name.now) (texts_ties x.license.now y.license.now)

-- whether one of a list or one more is the same
one_more : (before : List Refusal) (b r : Refusal) → cond (is_same b r) true (is_known before r) ≡ is_known (before ++ b ∷ []) r
one_more [] b r = edge (is_same b r)
  where
    edge : (c : Bool) → cond c true false ≡ (c || false)
    edge true = refl
    edge false = refl
one_more (x ∷ xs) b r = pick (is_same x r) (is_same b r) (one_more xs b r)
  where
    pick : (c d : Bool) → cond d true (is_known xs r) ≡ is_known (xs ++ b ∷ []) r → cond d true (c || is_known xs r) ≡ (c || is_known (xs ++ b ∷ []) r)
    pick true true e = refl
    pick true false e = refl
    pick false true e = e
    pick false false e = e

pub has-insert : (set after : BTreeSet Refusal) (before : List Refusal) (b : Refusal) → Has set before → UpdatesBy refusal_cmp (refusal_cmp b) set after true → Has after (before ++ b ∷ [])
has-insert set after before b has updates r =
    updates.0 r ∙ ap (λ c. cond c true (contains refusal_cmp set r)) (sym (tied b r)) ∙ ap (cond (is_same b r) true) (has r) ∙ one_more before b r

same_self : (r : Refusal) → is_same r r ≡ true
same_self r = rw ((bytes_eq-Decides r.name.now r.name.now).1 refl) ((bytes_eq-Decides r.license.now r.license.now).1 refl)

either : (a b : Bool) → a ≡ true → (a || b) ≡ true
either true b h = refl
either false b h = absurd (let bad : false ≡ true = h in cc)

second : (a b : Bool) → b ≡ true → (a || b) ≡ true
second true b h = refl
second false b h = h

pub grows : (before : List Refusal) → Grows before
grows before more r h =
    list_any-append (λ b. is_same b r) before more ∙ either (is_known before r) (is_known more r) h

-- one that stands among them is known
stands : (done : List Refusal) (x : Refusal) (xs : List Refusal) → is_known (done ++ x ∷ xs) x ≡ true
stands done x xs =
    list_any-append (λ b. is_same b x) done (x ∷ xs)
    ∙ second (is_known done x) (is_known (x ∷ xs) x) (either (is_same x x) (is_known xs x) (same_self x))

own_behind : (done rs : List Refusal) → AllByRecursion (λ known. known ≡ true) (map (is_known (done ++ rs)) rs)
own_behind done [] = tt
own_behind done (x ∷ xs) = (
  stands done x xs,
  subst (λ (all : List Refusal). AllByRecursion (λ known. known ≡ true) (map (is_known all) xs)) (append_assoc done (x ∷ []) xs) (own_behind (done ++ x ∷ []) xs),
)

pub own : (rs : List Refusal) → IsEnough rs rs
own rs = All-from_recursion _ _ (own_behind [] rs)
