-- What a path leads to in a document whose texts are others, and the texts that it leads to.
use Rattle.std.proofs.Common.{◌≡◌, ℕ, zero, suc, ◌+◌, ◌≤◌, Bool, true, List, [], ◌∷◌, Option, Some, None, option_map, option_and_then, Ordering, Less, Equal, Greater, nat_cmp, refl, ap, ◌∙◌, arith}
use Rattle.std.specs.Cmp.Lexicographic.{slice_cmp}
use Rattle.std.specs.Ordering.{match_ordering}
use Rattle.serde_json.specs.Data.{Data, null, boolean, number, string, array, object, Items, no_items, item, Members, no_members, member}
use Rattle.serde_json.specs.Find.{get_member, get_item, as_str}
use Rattle.json_places.specs.declared.path.Step.{Step}
use Rattle.json_places.specs.declared.path.Step.TheVariants.{Key, Item}
use Rattle.json_places.specs.Paths.{value_behind, value_at, text_at}
use Rattle.json_places.proofs.Leaves.{reword, reword_items, reword_members, passing, passing_within, passing_among, and_then_some}

-- ---- what a path leads to, once the texts are others

found_or : (c : List ℕ → List ℕ) (o : Ordering) (x x' : Option Data) (d : Data) → x' ≡ option_map (reword c) x → match_ordering o x' (Some (reword c d)) x' ≡ option_map (reword c) (match_ordering o x (Some d) x)
found_or c Less x x' d e = e
found_or c Equal x x' d e = refl
found_or c Greater x x' d e = e

-- the changed members have the changed value at a key
pub get_member-reword : (c : List ℕ → List ℕ) (k : List ℕ) (ms : Members) → get_member k (reword_members c ms) ≡ option_map (reword c) (get_member k ms)
get_member-reword c k no_members = refl
get_member-reword c k (member l d ms) = found_or c (slice_cmp nat_cmp k l) (get_member k ms) _ d (get_member-reword c k ms)

get_item-reword : (c : List ℕ → List ℕ) (i : ℕ) (ds : Items) → get_item i (reword_items c ds) ≡ option_map (reword c) (get_item i ds)
get_item-reword c i no_items = refl
get_item-reword c zero (item d ds) = refl
get_item-reword c (suc i) (item d ds) = get_item-reword c i ds

value_behind-reword : (c : List ℕ → List ℕ) (step : Step) (d : Data) → value_behind step (reword c d) ≡ option_map (reword c) (value_behind step d)
value_behind-reword c (Key k) null = refl
value_behind-reword c (Key k) (boolean b) = refl
value_behind-reword c (Key k) (number n) = refl
value_behind-reword c (Key k) (string s) = refl
value_behind-reword c (Key k) (array ds) = refl
value_behind-reword c (Key k) (object ms) = get_member-reword c k.now ms
value_behind-reword c (Item i) null = refl
value_behind-reword c (Item i) (boolean b) = refl
value_behind-reword c (Item i) (number n) = refl
value_behind-reword c (Item i) (string s) = refl
value_behind-reword c (Item i) (array ds) = get_item-reword c i ds
value_behind-reword c (Item i) (object ms) = refl

on_from : (c : List ℕ → List ℕ) (steps : List Step) (x : Option Data) → ((d : Data) → value_at steps (reword c d) ≡ option_map (reword c) (value_at steps d))
    → option_and_then (value_at steps) (option_map (reword c) x) ≡ option_map (reword c) (option_and_then (value_at steps) x)
on_from c steps None later = refl
on_from c steps (Some d) later = later d

value_at-reword : (c : List ℕ → List ℕ) (steps : List Step) (d : Data) → value_at steps (reword c d) ≡ option_map (reword c) (value_at steps d)
value_at-reword c [] d = refl
value_at-reword c (step ∷ steps) d = rw (value_behind-reword c step d) (on_from c steps (value_behind step d) (value_at-reword c steps))

as_str-reword : (c : List ℕ → List ℕ) (x : Option Data) → option_and_then as_str (option_map (reword c) x) ≡ option_map c (option_and_then as_str x)
as_str-reword c None = refl
as_str-reword c (Some null) = refl
as_str-reword c (Some (boolean b)) = refl
as_str-reword c (Some (number n)) = refl
as_str-reword c (Some (string s)) = refl
as_str-reword c (Some (array ds)) = refl
as_str-reword c (Some (object ms)) = refl

-- a path leads to the changed text
pub text_at-reword : (c : List ℕ → List ℕ) (steps : List Step) (d : Data) → text_at steps (reword c d) ≡ option_map c (text_at steps d)
text_at-reword c steps d = ap (option_and_then as_str) (value_at-reword c steps d) ∙ as_str-reword c (value_at steps d)

-- ---- a text that a path leads to is one of the document's

-- what is found stands here or later
pub either_found : (o : Ordering) (x : Option Data) (d e : Data) (P : Type 0) → match_ordering o x (Some d) x ≡ Some e → (x ≡ Some e → P) → (d ≡ e → P) → P
either_found Less x d e P is later here = later is
either_found Equal x d e P is later here = let same : d ≡ e = cc in here same
either_found Greater x d e P is later here = later is

module _ (q : List ℕ → Bool) where
  -- a member has no more passing texts than all of them
  pub among : (k : List ℕ) (ms : Members) (e : Data) → get_member k ms ≡ Some e → passing q e ≤ passing_among q ms
  among k no_members e is = absurd (cc)
  among k (member l d ms) e is =
      either_found (slice_cmp nat_cmp k l) (get_member k ms) d e (passing q e ≤ passing q d + passing_among q ms) is
      (λ later. omega (arith, among k ms e later)) (λ here. omega (arith, ap (passing q) here))

  -- an item has no more passing texts than all of them
  pub within : (i : ℕ) (ds : Items) (e : Data) → get_item i ds ≡ Some e → passing q e ≤ passing_within q ds
  within i no_items e is = absurd (cc)
  within zero (item d ds) e is = let same : d ≡ e = cc in omega (arith, ap (passing q) same)
  within (suc i) (item d ds) e is = omega (arith, within i ds e is)

  -- what a step leads to has no more passing texts than the document
  pub behind : (step : Step) (d e : Data) → value_behind step d ≡ Some e → passing q e ≤ passing q d
  behind (Key k) null e is = absurd (cc)
  behind (Key k) (boolean b) e is = absurd (cc)
  behind (Key k) (number n) e is = absurd (cc)
  behind (Key k) (string s) e is = absurd (cc)
  behind (Key k) (array ds) e is = absurd (cc)
  behind (Key k) (object ms) e is = among k.now ms e is
  behind (Item i) null e is = absurd (cc)
  behind (Item i) (boolean b) e is = absurd (cc)
  behind (Item i) (number n) e is = absurd (cc)
  behind (Item i) (string s) e is = absurd (cc)
  behind (Item i) (array ds) e is = within i ds e is
  behind (Item i) (object ms) e is = absurd (cc)

  has_text : (d : Data) (t : List ℕ) → as_str d ≡ Some t → q t ≡ true → 1 ≤ passing q d
  has_text null t is passes = absurd (cc)
  has_text (boolean b) t is passes = absurd (cc)
  has_text (number n) t is passes = absurd (cc)
  has_text (string s) t is passes = let same : s ≡ t = cc in rw (same, passes) (omega arith)
  has_text (array ds) t is passes = absurd (cc)
  has_text (object ms) t is passes = absurd (cc)

  -- a document that a path leads to a passing text in has a passing text
  pub text_at-passing : (steps : List Step) (d : Data) (t : List ℕ) → text_at steps d ≡ Some t → q t ≡ true → 1 ≤ passing q d
  text_at-passing [] d t is passes = has_text d t is passes
  text_at-passing (step ∷ steps) d t is passes =
      let v = and_then_some as_str (value_at (step ∷ steps) d) t is in
      let w = and_then_some (value_at steps) (value_behind step d) v.0 v.1 in
      let there : text_at steps w.0 ≡ Some t = ap (option_and_then as_str) w.2 ∙ v.2 in
      omega (arith, text_at-passing steps w.0 t there passes, behind step d w.0 w.1)
