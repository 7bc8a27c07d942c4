-- One entry more denies no less, or allows no less.
use Rattle.std.proofs.Common.{◌≡◌, ℕ, zero, suc, ◌<◌, length, arith, Bool, true, false, not, ◌&&◌, ◌||◌, List, [], ◌∷◌, ◌++◌, is_some, unwrap_or, refl, sym, ap, ◌∙◌}
use Rattle.std.specs.Prelude.{slice_get, slice_index_or, Contains}
use Rattle.std.specs.List.{list_any}
use Rattle.spdx_requirement.specs.Items.{Requirement}
use Rattle.spdx_policy.specs.declared.decision.Flag.{Flag}
use Rattle.spdx_policy.specs.Rules.{NamedRow, Rules, allowed_by}
use Rattle.spdx_policy.specs.Decisions.{names, alone, is_named, is_exposed, entry_denies, flag_denies, flag_allows, addition_has, license_has, is_denied_way, is_allowed_way, frees, decision_among, ways_of, is_allowed, has_free_way}
use Rattle.spdx_policy.specs.Growing.{with_entry_in, with_allowed, with_denied, with_denied_flags, with_exempted, AllowsAsMuch, GrowsRight}
use Rattle.spdx_policy.proofs.Wins.{denied_by_some, allowed_exactly}

-- the one implies the other
abbrev Implies : Bool → Bool → Type 0
Implies a b = a ≡ true → b ≡ true

or_left : (a b : Bool) → Implies a (a || b)
or_left true b e = refl
or_left false b e = absurd (cc)

or_grows : (a b c d : Bool) → Implies a c → Implies b d → Implies (a || b) (c || d)
or_grows true b c d f g e = ap (λ z. z || d) (f refl)
or_grows false true true d f g e = refl
or_grows false true false d f g e = g refl
or_grows false false c d f g e = absurd (cc)

and_grows : (a b c d : Bool) → Implies a c → Implies b d → Implies (a && b) (c && d)
and_grows true true c d f g e = ap (λ z. z && d) (f refl) ∙ g refl
and_grows true false c d f g e = absurd (cc)
and_grows false b c d f g e = absurd (cc)

not_grows : (a b : Bool) → Implies a b → Implies (not b) (not a)
not_grows a true f e = absurd (cc)
not_grows true false f e = let bad : false ≡ true = f refl in absurd (cc)
not_grows false false f e = refl

any_grows : {A : Type 0} (f g : A → Bool) (xs : List A) → ((x : A) → Implies (f x) (g x)) → Implies (list_any f xs) (list_any g xs)
any_grows f g [] h e = e
any_grows f g (x ∷ xs) h e = or_grows (f x) (list_any f xs) (g x) (list_any g xs) (h x) (any_grows f g xs h) e

any_more : {A : Type 0} (f : A → Bool) (xs ys : List A) → Implies (list_any f xs) (list_any f (xs ++ ys))
any_more f [] ys e = absurd (cc)
any_more f (x ∷ xs) ys e = or_grows (f x) (list_any f xs) (f x) (list_any f (xs ++ ys)) (λ h. h) (any_more f xs ys) e

-- where what is allowed grows and what is denied doesn't, what is free and allowed grows
free_grows : (p q : Rules) (tables : List ℕ) (ws : List Requirement) → ((w : Requirement) → Implies (is_allowed_way p tables w) (is_allowed_way q tables w))
    → ((w : Requirement) → Implies (is_denied_way q tables w) (is_denied_way p tables w)) → Implies (has_free_way p tables ws) (has_free_way q tables ws)
free_grows p q tables ws allowed denied =
    any_grows (λ w. is_allowed_way p tables w && not (is_denied_way p tables w)) (λ w. is_allowed_way q tables w && not (is_denied_way q tables w)) ws
    (λ w. and_grows (is_allowed_way p tables w) (not (is_denied_way p tables w)) (is_allowed_way q tables w) (not (is_denied_way q tables w)) (allowed w)
    (not_grows (is_denied_way q tables w) (is_denied_way p tables w) (denied w)))

as_much : (p q : Rules) (tables : List ℕ) → ((r : Requirement) → ways_of p r ≡ ways_of q r) → ((w : Requirement) → Implies (is_allowed_way p tables w) (is_allowed_way q tables w))
    → ((w : Requirement) → Implies (is_denied_way q tables w) (is_denied_way p tables w)) → AllowsAsMuch tables p q
as_much p q tables same allowed denied r e =
    allowed_exactly q tables (ways_of q r)
    ∙ ap (has_free_way q tables) (sym (same r))
    ∙ free_grows p q tables (ways_of p r) allowed denied (sym (allowed_exactly p tables (ways_of p r)) ∙ e)

-- the test by which something is denied grows where it is exposed
exposed_grows : (a b : Bool) (w : Requirement) (ns : List NamedRow) → Implies a b → Implies (list_any (entry_denies a w) ns) (list_any (entry_denies b w) ns)
exposed_grows a b w ns f =
    any_grows (entry_denies a w) (entry_denies b w) ns
    (λ n. or_grows (names w n) (a && names (alone w) n) (names w n) (b && names (alone w) n) (λ h. h) (and_grows a (names (alone w) n) b (names (alone w) n) f (λ h. h)))

flags_grow : (a b : Bool) (w : Requirement) (fs : List Flag) → Implies a b → Implies (list_any (flag_denies a w) fs) (list_any (flag_denies b w) fs)
flags_grow a b w fs f =
    any_grows (flag_denies a w) (flag_denies b w) fs
    (λ x. or_grows (addition_has x w.addition) (a && license_has x w.license) (addition_has x w.addition) (b && license_has x w.license) (λ h. h)
    (and_grows a (license_has x w.license) b (license_has x w.license) f (λ h. h)))

-- where more is named, nothing more is denied
less_denied : (p q : Rules) (tables : List ℕ) (w : Requirement) → p.deny ≡ q.deny → p.deny_if ≡ q.deny_if → Implies (is_named p tables w) (is_named q tables w)
    → Implies (is_denied_way q tables w) (is_denied_way p tables w)
less_denied p q tables w d f named e =
    let exposed : Implies (is_exposed q tables w) (is_exposed p tables w) =
    not_grows (is_some w.addition && is_named p tables w) (is_some w.addition && is_named q tables w)
    (and_grows (is_some w.addition) (is_named p tables w) (is_some w.addition) (is_named q tables w) (λ h. h) named) in
    denied_by_some p tables w
    ∙ ap (λ (ns : List NamedRow). list_any (entry_denies (is_exposed p tables w) w) ns || list_any (flag_denies (is_exposed p tables w) w) p.deny_if) d
    ∙ ap (λ (fs : List Flag). list_any (entry_denies (is_exposed p tables w) w) q.deny || list_any (flag_denies (is_exposed p tables w) w) fs) f
    ∙ or_grows (list_any (entry_denies (is_exposed q tables w) w) q.deny) (list_any (flag_denies (is_exposed q tables w) w) q.deny_if)
    (list_any (entry_denies (is_exposed p tables w) w) q.deny) (list_any (flag_denies (is_exposed p tables w) w) q.deny_if)
    (exposed_grows (is_exposed q tables w) (is_exposed p tables w) w q.deny exposed) (flags_grow (is_exposed q tables w) (is_exposed p tables w) w q.deny_if exposed)
    (sym (denied_by_some q tables w) ∙ e)

-- what is named stays named where the lists grow
in_table : (f : NamedRow → Bool) (table : ℕ) (n : NamedRow) (lists : List (List NamedRow)) (k : ℕ)
    → Implies (list_any f (unwrap_or (slice_get lists k) [])) (list_any f (unwrap_or (slice_get (with_entry_in table n lists) k) []))
in_table f table n [] k e = e
in_table f zero n (list ∷ lists) zero e = any_more f list (n ∷ []) e
in_table f zero n (list ∷ lists) (suc k) e = e
in_table f (suc table) n (list ∷ lists) zero e = e
in_table f (suc table) n (list ∷ lists) (suc k) e = in_table f table n lists k e

pub grows_right : (p : Rules) (tables : List ℕ) → GrowsRight p tables
grows_right p tables = record {
  more_denied = λ ns. as_much (with_denied p ns) p tables (λ r. refl) (λ w h. h) (λ w e.
      denied_by_some (with_denied p ns) tables w
      ∙ or_grows (list_any (entry_denies (is_exposed p tables w) w) p.deny) (list_any (flag_denies (is_exposed p tables w) w) p.deny_if)
      (list_any (entry_denies (is_exposed p tables w) w) (p.deny ++ ns)) (list_any (flag_denies (is_exposed p tables w) w) p.deny_if)
      (any_more (entry_denies (is_exposed p tables w) w) p.deny ns) (λ h. h) (sym (denied_by_some p tables w) ∙ e));
  more_flags_denied = λ fs. as_much (with_denied_flags p fs) p tables (λ r. refl) (λ w h. h) (λ w e.
      denied_by_some (with_denied_flags p fs) tables w
      ∙ or_grows (list_any (entry_denies (is_exposed p tables w) w) p.deny) (list_any (flag_denies (is_exposed p tables w) w) p.deny_if)
      (list_any (entry_denies (is_exposed p tables w) w) p.deny) (list_any (flag_denies (is_exposed p tables w) w) (p.deny_if ++ fs))
      (λ h. h) (any_more (flag_denies (is_exposed p tables w) w) p.deny_if fs) (sym (denied_by_some p tables w) ∙ e));
  more_allowed = λ ns.
      let named : (w : Requirement) → Implies (is_named p tables w) (is_named (with_allowed p ns) tables w) =
      λ w. or_grows (list_any (names w) p.allow) (list_any (λ table. list_any (names w) (allowed_by p table)) tables) (list_any (names w) (p.allow ++ ns)) (list_any (λ table. list_any (names w) (allowed_by p table)) tables)
      (any_more (names w) p.allow ns) (λ h. h) in
      as_much p (with_allowed p ns) tables (λ r. refl)
      (λ w. or_grows (is_named p tables w) (list_any (flag_allows w) p.allow_if) (is_named (with_allowed p ns) tables w) (list_any (flag_allows w) p.allow_if) (named w) (λ h. h))
      (λ w. less_denied p (with_allowed p ns) tables w refl refl (named w));
  more_exempted = λ table n.
      let q = with_exempted p table n in
      let named : (w : Requirement) → Implies (is_named p tables w) (is_named q tables w) =
      λ w. or_grows (list_any (names w) p.allow) (list_any (λ t. list_any (names w) (allowed_by p t)) tables) (list_any (names w) p.allow) (list_any (λ t. list_any (names w) (allowed_by q t)) tables)
      (λ h. h) (any_grows (λ t. list_any (names w) (allowed_by p t)) (λ t. list_any (names w) (allowed_by q t)) tables (λ t. in_table (names w) table n p.exempting t)) in
      as_much p q tables (λ r. refl)
      (λ w. or_grows (is_named p tables w) (list_any (flag_allows w) p.allow_if) (is_named q tables w) (list_any (flag_allows w) p.allow_if) (named w) (λ h. h))
      (λ w. less_denied p q tables w refl refl (named w));
}

any_at : {A : Type 0} (f : A → Bool) (xs : List A) (x : A) (k : ℕ) → k < length xs → slice_index_or xs k x ≡ x → f x ≡ true → list_any f xs ≡ true
any_at f [] x k lt same e = absurd (omega (arith, lt))
any_at f (y ∷ xs) x zero lt same e = ap (λ b. b || list_any f xs) (ap f same ∙ e)
any_at f (y ∷ xs) x (suc k) lt same e =
    or_grows false (list_any f xs) (f y) (list_any f xs) (λ h. absurd (cc)) (λ h. h) (any_at f xs x k (omega (arith, lt)) same e)

any_contained : {A : Type 0} (f : A → Bool) (xs : List A) (x : A) → Contains xs x → f x ≡ true → list_any f xs ≡ true
any_contained f xs x h e = any_at f xs x h.0 h.1 h.2 e

any_behind : {A : Type 0} (f : A → Bool) (xs ys : List A) → Implies (list_any f ys) (list_any f (xs ++ ys))
any_behind f [] ys e = e
any_behind f (x ∷ xs) ys e = or_grows false (list_any f ys) (f x) (list_any f (xs ++ ys)) (λ h. absurd (cc)) (any_behind f xs ys) e

-- an entry that stands for a licence that nothing denies allows it, once it is in `allow`
pub freed_with : (p : Rules) (tables : List ℕ) (ws : List Requirement) (n : NamedRow) (ns : List NamedRow) → frees p tables ws n ≡ true → Contains ns n
    → is_allowed (decision_among (with_allowed p ns) tables ws) ≡ true
freed_with p tables ws n ns e h =
    let q = with_allowed p ns in
    let named : (w : Requirement) → Implies (is_named p tables w) (is_named q tables w) =
    λ w. or_grows (list_any (names w) p.allow) (list_any (λ table. list_any (names w) (allowed_by p table)) tables) (list_any (names w) (p.allow ++ ns)) (list_any (λ table. list_any (names w) (allowed_by p table)) tables)
    (any_more (names w) p.allow ns) (λ k. k) in
    let allowed : (w : Requirement) → Implies (names w n) (is_allowed_way q tables w) =
    λ w k. or_left (is_named q tables w) (list_any (flag_allows w) p.allow_if)
    (or_left (list_any (names w) (p.allow ++ ns)) (list_any (λ table. list_any (names w) (allowed_by p table)) tables)
    (any_behind (names w) p.allow ns (any_contained (names w) ns n h k))) in
    allowed_exactly q tables ws
    ∙ any_grows (λ w. names w n && not (is_denied_way p tables w)) (λ w. is_allowed_way q tables w && not (is_denied_way q tables w)) ws
    (λ w. and_grows (names w n) (not (is_denied_way p tables w)) (is_allowed_way q tables w) (not (is_denied_way q tables w)) (allowed w)
    (not_grows (is_denied_way q tables w) (is_denied_way p tables w) (less_denied p q tables w refl refl (named w)))) e
