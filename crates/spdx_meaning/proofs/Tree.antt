-- The tree of least sets.
use Rattle.std.proofs.Common.{◌≡◌, Bool, true, false, ◌&&◌, ◌||◌, List, [], ◌∷◌, refl, sym, ◌∙◌, ap, subst, inl, inr}
use Rattle.std.specs.List.{list_all, AllByRecursion}
use Rattle.spdx_requirement.specs.Items.{Requirement}
use Rattle.spdx_parser.specs.declared.node.Operator.TheVariants.{And, Or}
use Rattle.spdx_parser.specs.Tree.{Tree, Leaf, Join, leaves}
use Rattle.spdx_evaluation.specs.Truth.{holds}
use Rattle.spdx_meaning.specs.Meaning.{IsEquivalent}
use Rattle.spdx_meaning.proofs.Meaning.{holds_join}
use Rattle.spdx_meaning.specs.Sets.{In}
use Rattle.spdx_meaning.specs.LeastSets.{accepts_one, AreLeastSets, all_from, all_of, any_from, any_of}
use Rattle.spdx_meaning.proofs.RanksIn.{in_first, in_second}

-- ---- a tree holds where all is accepted, and nowhere where nothing is

all_holds : (t : Tree) → holds (λ r. true) t ≡ true
all_holds (Leaf r) = refl
all_holds (Join And l r) = holds_join (λ z. true) And l r ∙ ap (λ (b : Bool). b && holds (λ z. true) r) (all_holds l) ∙ all_holds r
all_holds (Join Or l r) = holds_join (λ z. true) Or l r ∙ ap (λ (b : Bool). b || holds (λ z. true) r) (all_holds l)

none_holds : (t : Tree) → holds (λ r. false) t ≡ false
none_holds (Leaf r) = refl
none_holds (Join And l r) = holds_join (λ z. false) And l r ∙ ap (λ (b : Bool). b && holds (λ z. false) r) (none_holds l)
none_holds (Join Or l r) = holds_join (λ z. false) Or l r ∙ ap (λ (b : Bool). b || holds (λ z. false) r) (none_holds l) ∙ none_holds r

-- so there is a set, and no set is empty
abbrev pub IsFilled : List Requirement → Type 0
IsFilled s = list_all (λ r. false) s ≡ false

neither : (a b : Bool) → (a || b) ≡ false → (a ≡ false) × (b ≡ false)
neither true b e = let bad : true ≡ false = e in cc
neither false b e = (refl, e)

filled : (ss : List (List Requirement)) → accepts_one (λ r. false) ss ≡ false → AllByRecursion IsFilled ss
filled [] e = tt
filled (s ∷ ss) e = let both = neither (list_all (λ r. false) s) (accepts_one (λ r. false) ss) e in (both.0, filled ss both.1)

pub some_sets : (t : Tree) (sets : List (List Requirement)) → AreLeastSets t sets → sets ≡ [] → ⊥
some_sets t sets least e =
    let bad : true ≡ false = sym (all_holds t) ∙ least.means (λ r. true) (λ r s same. refl) ∙ ap (accepts_one (λ r. true)) e in
    cc

pub all_filled : (t : Tree) (sets : List (List Requirement)) → AreLeastSets t sets → AllByRecursion IsFilled sets
all_filled t sets least = filled sets (sym (least.means (λ r. false) (λ r s same. refl)) ∙ none_holds t)

-- ---- its truth

and_true : (b : Bool) → b ≡ (b && true)
and_true true = refl
and_true false = refl

or_false : (b : Bool) → b ≡ (b || false)
or_false true = refl
or_false false = refl

from_holds : (h : Requirement → Bool) (r : Requirement) (rs : List Requirement) → holds h (all_from r rs) ≡ list_all h (r ∷ rs)
from_holds h r [] = and_true (h r)
from_holds h r (q ∷ qs) = holds_join h And (Leaf r) (all_from q qs) ∙ ap (λ (b : Bool). h r && b) (from_holds h q qs)

set_holds : (h : Requirement → Bool) (s : List Requirement) → IsFilled s → holds h (all_of s) ≡ list_all h s
set_holds h [] e = let bad : true ≡ false = e in cc
set_holds h (r ∷ rs) e = from_holds h r rs

any_holds : (h : Requirement → Bool) (s : List Requirement) (ss : List (List Requirement)) → IsFilled s → AllByRecursion IsFilled ss → holds h (any_from s ss) ≡ accepts_one h (s ∷ ss)
any_holds h s [] e all = set_holds h s e ∙ or_false (list_all h s)
any_holds h s (m ∷ ms) e all =
    holds_join h Or (all_of s) (any_from m ms)
    ∙ ap (λ (b : Bool). b || holds h (any_from m ms)) (set_holds h s e)
    ∙ ap (λ (b : Bool). list_all h s || b) (any_holds h m ms all.0 all.1)

pub sets_hold : (h : Requirement → Bool) (sets : List (List Requirement)) → (sets ≡ [] → ⊥) → AllByRecursion IsFilled sets → holds h (any_of sets) ≡ accepts_one h sets
sets_hold h [] some all = absurd (some refl)
sets_hold h (s ∷ ss) some all = any_holds h s ss all.0 all.1

-- ---- its requirements

from_leaves : (r : Requirement) (rs : List Requirement) → leaves (all_from r rs) ≡ r ∷ rs
from_leaves r [] = refl
from_leaves r (q ∷ qs) = ap (λ (z : List Requirement). r ∷ z) (from_leaves q qs)

set_leaves : (s : List Requirement) → IsFilled s → leaves (all_of s) ≡ s
set_leaves [] e = let bad : true ≡ false = e in cc
set_leaves (r ∷ rs) e = from_leaves r rs

all_by : (P : Requirement → Type 0) (s : List Requirement) → ((r : Requirement) → In s r → P r) → AllByRecursion P s
all_by P [] h = tt
all_by P (r ∷ rs) h = (h r (inl refl), all_by P rs (λ q k. h q (inr k)))

any_leaves : (P : Requirement → Type 0) (s : List Requirement) (ss : List (List Requirement)) → IsFilled s → AllByRecursion IsFilled ss → ((r : Requirement) → In (leaves (any_from s ss)) r → P r) → AllByRecursion (AllByRecursion P) (s ∷ ss)
any_leaves P s [] e all h = (all_by P s (λ r k. h r (subst (λ (z : List Requirement). In z r) (sym (set_leaves s e)) k)), tt)
any_leaves P s (m ∷ ms) e all h = (
  all_by P s (λ r k. h r (in_first (leaves (all_of s)) (leaves (any_from m ms)) r (subst (λ (z : List Requirement). In z r) (sym (set_leaves s e)) k))),
  any_leaves P m ms all.0 all.1 (λ r k. h r (in_second (leaves (all_of s)) (leaves (any_from m ms)) r k)),
)

-- they are its own
own_leaves : (sets : List (List Requirement)) → (sets ≡ [] → ⊥) → AllByRecursion IsFilled sets → AllByRecursion (AllByRecursion (In (leaves (any_of sets)))) sets
own_leaves [] some all = tt
own_leaves (s ∷ ss) some all = any_leaves (In (leaves (any_from s ss))) s ss all.0 all.1 (λ r k. k)

-- ---- it means what the tree means, and its least sets are the same

module _ (t : Tree) (sets : List (List Requirement)) (least : AreLeastSets t sets) where
  pub means_the_same : IsEquivalent t (any_of sets)
  means_the_same h ok = least.means h ok ∙ sym (sets_hold h sets (some_sets t sets least) (all_filled t sets least))

  pub least_of_its_own : AreLeastSets (any_of sets) sets
  least_of_its_own = record {
    means = λ h ok. sets_hold h sets (some_sets t sets least) (all_filled t sets least);
    apart = least.apart;
    rise = least.rise;
    ordered = least.ordered;
    of_tree = own_leaves sets (some_sets t sets least) (all_filled t sets least);
  }
