-- A document with one text changed, where the changes agree on all others.
use Rattle.std.proofs.Common.{◌≡◌, ℕ, zero, suc, ◌+◌, ◌<◌, ◌≤◌, ◌==◌, Bool, true, false, List, [], ◌∷◌, Some, None, option_map, option_and_then, Ordering, Less, Equal, Greater, nat_cmp, is_eq, bytes_eq, inl, inr, refl, sym, ap, ◌∙◌, subst, arith}
use Rattle.std.proofs.lemmas.Bool.{eq-eqb}
use Rattle.std.proofs.lemmas.Bool.Decides.{eqb_tells}
use Rattle.std.proofs.lemmas.Map.Text.{is_eq-slice_cmp}
use Rattle.std.proofs.lemmas.Slice.Eq.{bytes_eq-Decides}
use Rattle.std.specs.Cmp.Lexicographic.{slice_cmp}
use Rattle.std.specs.Ordering.{match_ordering}
use Rattle.serde_json.specs.Data.{Data, null, boolean, number, string, array, object, Items, no_items, item, Members, no_members, member}
use Rattle.serde_json.specs.Find.{get_member, get_item, at, as_str}
use Rattle.json_places.specs.declared.path.Step.{Step}
use Rattle.json_places.specs.declared.path.Step.TheVariants.{Key, Item}
use Rattle.json_places.specs.Paths.{value_behind, value_at, text_at, change_member, change_item, change_behind, set_text, set_at}
use Rattle.json_places.proofs.Trees.{one}
use Rattle.json_places.proofs.Leaves.{reword, reword_items, reword_members, passing, passing_within, passing_among, Above, IsTidy, AreTidy, InOrder, and_then_some}
use Rattle.json_places.proofs.Led.{get_member-reword, either_found, among, within, behind, text_at-passing}

-- ---- a member or an item that is not there

-- no member has a key that all the keys are above
absent : (k : List ℕ) (ms : Members) → Above k ms → get_member k ms ≡ None
absent k no_members h = refl
absent k (member l d ms) h = rw h.0 (absent k ms h.1)

unchanged_at : (change : Data → Data) (o : Ordering) (k l : List ℕ) (d : Data) (ms : Members) → slice_cmp nat_cmp k l ≡ o → match_ordering o (get_member k ms) (Some d) (get_member k ms) ≡ None
    → (get_member k ms ≡ None → change_member change k ms ≡ ms) → change_member change k (member l d ms) ≡ member l d ms
unchanged_at change Less k l d ms is none later = let differs : bytes_eq k l ≡ false = sym (is_eq-slice_cmp k l) ∙ ap is_eq is in rw differs (ap (member l d) (later none))
unchanged_at change Equal k l d ms is none later = absurd (cc)
unchanged_at change Greater k l d ms is none later = let differs : bytes_eq k l ≡ false = sym (is_eq-slice_cmp k l) ∙ ap is_eq is in rw differs (ap (member l d) (later none))

-- where no member has the key, none is changed
pub change_member-absent : (change : Data → Data) (k : List ℕ) (ms : Members) → get_member k ms ≡ None → change_member change k ms ≡ ms
change_member-absent change k no_members none = refl
change_member-absent change k (member l d ms) none = unchanged_at change (slice_cmp nat_cmp k l) k l d ms refl none (change_member-absent change k ms)

other_number : (n i : ℕ) → i < n → (n == i) ≡ false
other_number n i less = let told = eqb_tells n i in elim told [ inl h ↦ absurd (omega (arith, h.1)) | inr h ↦ h.0 ]

later_number : (n i : ℕ) → n < i → (n == i) ≡ false
later_number n i less = let told = eqb_tells n i in elim told [ inl h ↦ absurd (omega (arith, h.1)) | inr h ↦ h.0 ]

-- where the items begin behind the index, none is changed
pub change_item-past : (change : Data → Data) (i n : ℕ) (ds : Items) → i < n → change_item change i n ds ≡ ds
change_item-past change i n no_items less = refl
change_item-past change i n (item d ds) less =
    let differs : (n == i) ≡ false = other_number n i less in
    let more : i < n + 1 = omega arith in
    rw differs (ap (item d) (change_item-past change i (n + 1) ds more))

-- ---- what a path leads to has its keys in order

tidy_among : (k : List ℕ) (ms : Members) (e : Data) → get_member k ms ≡ Some e → InOrder ms → IsTidy e
tidy_among k no_members e is tidy = absurd (cc)
tidy_among k (member l d ms) e is tidy = either_found (slice_cmp nat_cmp k l) (get_member k ms) d e (IsTidy e) is (λ later. tidy_among k ms e later tidy.2) (λ here. subst IsTidy here tidy.1)

tidy_within : (i : ℕ) (ds : Items) (e : Data) → get_item i ds ≡ Some e → AreTidy ds → IsTidy e
tidy_within i no_items e is tidy = absurd (cc)
tidy_within zero (item d ds) e is tidy = let same : d ≡ e = cc in subst IsTidy same tidy.0
tidy_within (suc i) (item d ds) e is tidy = tidy_within i ds e is tidy.1

tidy_behind : (step : Step) (d e : Data) → value_behind step d ≡ Some e → IsTidy d → IsTidy e
tidy_behind (Key k) null e is tidy = absurd (cc)
tidy_behind (Key k) (boolean b) e is tidy = absurd (cc)
tidy_behind (Key k) (number n) e is tidy = absurd (cc)
tidy_behind (Key k) (string s) e is tidy = absurd (cc)
tidy_behind (Key k) (array ds) e is tidy = absurd (cc)
tidy_behind (Key k) (object ms) e is tidy = tidy_among k.now ms e is tidy
tidy_behind (Item i) null e is tidy = absurd (cc)
tidy_behind (Item i) (boolean b) e is tidy = absurd (cc)
tidy_behind (Item i) (number n) e is tidy = absurd (cc)
tidy_behind (Item i) (string s) e is tidy = absurd (cc)
tidy_behind (Item i) (array ds) e is tidy = tidy_within i ds e is tidy
tidy_behind (Item i) (object ms) e is tidy = absurd (cc)

-- ---- two changes that agree on the texts that fail the test

module _ (c c' : List ℕ → List ℕ) (q : List ℕ → Bool) (agree : (s : List ℕ) → q s ≡ false → c' s ≡ c s) where
  fails : (b : Bool) → one b ≡ 0 → b ≡ false
  fails true e = absurd (omega arith)
  fails false e = refl

  -- they change a document alike in which no text passes
  mutual
    pub alike : (d : Data) → passing q d ≡ 0 → reword c' d ≡ reword c d
    alike null e = refl
    alike (boolean b) e = refl
    alike (number n) e = refl
    alike (string s) e = ap string (agree s (fails (q s) e))
    alike (array ds) e = ap array (alike_items ds e)
    alike (object ms) e = ap object (alike_members ms e)

    pub alike_items : (ds : Items) → passing_within q ds ≡ 0 → reword_items c' ds ≡ reword_items c ds
    alike_items no_items e = refl
    alike_items (item d ds) e =
        let here : passing q d ≡ 0 = omega arith in
        let later : passing_within q ds ≡ 0 = omega arith in
        let x = alike d here in
        let y = alike_items ds later in
        cc

    pub alike_members : (ms : Members) → passing_among q ms ≡ 0 → reword_members c' ms ≡ reword_members c ms
    alike_members no_members e = refl
    alike_members (member k d ms) e =
        let here : passing q d ≡ 0 = omega arith in
        let later : passing_among q ms ≡ 0 = omega arith in
        let x = alike d here in
        let y = alike_members ms later in
        cc

  module _ (change : Data → Data) (e : Data) (changed : reword c' e ≡ change (reword c e)) (has : 1 ≤ passing q e) where
    apart : (k l : List ℕ) (d : Data) (ms : Members) → bytes_eq k l ≡ false → get_member k ms ≡ Some e → passing q d + passing_among q ms ≤ 1
        → (get_member k ms ≡ Some e → reword_members c' ms ≡ change_member change k (reword_members c ms))
        → reword_members c' (member l d ms) ≡ change_member change k (reword_members c (member l d ms))
    apart k l d ms differs found few later =
        let none : passing q d ≡ 0 = omega (arith, among q k ms e found) in
        let x = alike d none in
        let y = later found in
        rw (differs, x, y)

    member_turn : (o : Ordering) (k l : List ℕ) (d : Data) (ms : Members) → slice_cmp nat_cmp k l ≡ o → match_ordering o (get_member k ms) (Some d) (get_member k ms) ≡ Some e
        → InOrder (member l d ms) → passing q d + passing_among q ms ≤ 1
        → (get_member k ms ≡ Some e → reword_members c' ms ≡ change_member change k (reword_members c ms))
        → reword_members c' (member l d ms) ≡ change_member change k (reword_members c (member l d ms))
    member_turn Less k l d ms is found tidy few later = apart k l d ms (sym (is_eq-slice_cmp k l) ∙ ap is_eq is) found few later
    member_turn Greater k l d ms is found tidy few later = apart k l d ms (sym (is_eq-slice_cmp k l) ∙ ap is_eq is) found few later
    member_turn Equal k l d ms is found tidy few later =
        let equal : bytes_eq k l ≡ true = sym (is_eq-slice_cmp k l) ∙ ap is_eq is in
        let key : k ≡ l = (bytes_eq-Decides k l).0 equal in
        let this : d ≡ e = cc in
        let none : passing_among q ms ≡ 0 = omega (arith, ap (passing q) this) in
        let missing : get_member k ms ≡ None = rw key (absent l ms tidy.0) in
        let rest = change_member-absent change k (reword_members c ms) (get_member-reword c k ms ∙ ap (option_map (reword c)) missing) in
        let x = alike_members ms none in
        rw (equal, rest, x, this, changed)

    -- the member at the key is changed, and the others stay
    pub one_member : (k : List ℕ) (ms : Members) → get_member k ms ≡ Some e → InOrder ms → passing_among q ms ≤ 1 → reword_members c' ms ≡ change_member change k (reword_members c ms)
    one_member k no_members found tidy few = absurd (cc)
    one_member k (member l d ms) found tidy few =
        member_turn (slice_cmp nat_cmp k l) k l d ms refl found tidy few (λ later. one_member k ms later tidy.2 (omega arith))

    -- the item at the index is changed, and the others stay
    pub one_item : (i n m : ℕ) (ds : Items) → get_item i ds ≡ Some e → m ≡ n + i → passing_within q ds ≤ 1 → reword_items c' ds ≡ change_item change m n (reword_items c ds)
    one_item i n m no_items found at few = absurd (cc)
    one_item zero n m (item d ds) found at few =
        let this : d ≡ e = cc in
        let equal : (n == m) ≡ true = eq-eqb n m (omega arith) in
        let none : passing_within q ds ≡ 0 = omega (arith, ap (passing q) this) in
        let less : m < n + 1 = omega arith in
        let rest = change_item-past change m (n + 1) (reword_items c ds) less in
        let x = alike_items ds none in
        rw (equal, rest, x, this, changed)
    one_item (suc i) n m (item d ds) found at few =
        let differs : (n == m) ≡ false = later_number n m (omega arith) in
        let none : passing q d ≡ 0 = omega (arith, within q i ds e found) in
        let x = alike d none in
        let y = one_item i (n + 1) m ds found (omega arith) (omega arith) in
        rw (differs, x, y)

  at_text : (d : Data) (t : List ℕ) → as_str d ≡ Some t → reword c' d ≡ set_text (c' t) (reword c d)
  at_text null t is = refl
  at_text (boolean b) t is = refl
  at_text (number n) t is = refl
  at_text (string s) t is = let same : s ≡ t = cc in ap (λ x. string (c' x)) same
  at_text (array ds) t is = absurd (cc)
  at_text (object ms) t is = absurd (cc)

  behind_step : (step : Step) (d e : Data) (change : Data → Data) → value_behind step d ≡ Some e → IsTidy d → passing q d ≤ 1 → reword c' e ≡ change (reword c e) → 1 ≤ passing q e
      → reword c' d ≡ change_behind change step (reword c d)
  behind_step (Key k) null e change is tidy few changed has = refl
  behind_step (Key k) (boolean b) e change is tidy few changed has = refl
  behind_step (Key k) (number n) e change is tidy few changed has = refl
  behind_step (Key k) (string s) e change is tidy few changed has = absurd (cc)
  behind_step (Key k) (array ds) e change is tidy few changed has = absurd (cc)
  behind_step (Key k) (object ms) e change is tidy few changed has = ap object (one_member change e changed has k.now ms is tidy few)
  behind_step (Item i) null e change is tidy few changed has = refl
  behind_step (Item i) (boolean b) e change is tidy few changed has = refl
  behind_step (Item i) (number n) e change is tidy few changed has = refl
  behind_step (Item i) (string s) e change is tidy few changed has = absurd (cc)
  behind_step (Item i) (array ds) e change is tidy few changed has = ap array (one_item change e changed has i 0 i ds is (omega arith) few)
  behind_step (Item i) (object ms) e change is tidy few changed has = absurd (cc)

  -- two changes differ in the text that passes, where one passes and a path leads to it
  pub set_at-reword : (steps : List Step) (d : Data) (t : List ℕ) → IsTidy d → passing q d ≤ 1 → text_at steps d ≡ Some t → q t ≡ true → reword c' d ≡ set_at steps (c' t) (reword c d)
  set_at-reword [] d t tidy few is passes = at_text d t is
  set_at-reword (step ∷ steps) d t tidy few is passes =
      let v = and_then_some as_str (value_at (step ∷ steps) d) t is in
      let w = and_then_some (value_at steps) (value_behind step d) v.0 v.1 in
      let there : text_at steps w.0 ≡ Some t = ap (option_and_then as_str) w.2 ∙ v.2 in
      let fewer : passing q w.0 ≤ 1 = omega (arith, few, behind q step d w.0 w.1) in
      behind_step step d w.0 (set_at steps (c' t)) w.1 tidy few (set_at-reword steps w.0 t (tidy_behind step d w.0 w.1 tidy) fewer there passes) (text_at-passing q steps w.0 t there passes)
