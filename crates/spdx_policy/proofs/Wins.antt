-- When a requirement is allowed, and when it is denied.
use Rattle.std.proofs.Common.{◌≡◌, ℕ, ◌+◌, Bool, true, false, not, ◌&&◌, ◌||◌, cond, List, [], ◌∷◌, Option, Some, None, is_some, option_map, unwrap_or, map, refl, sym, ap, ◌∙◌}
use Rattle.std.specs.List.{position, position_from, list_any, list_all}
use Rattle.std.proofs.lemmas.Iterator.Adapters.{position_from-zero}
use Rattle.std.specs.Prelude.{slice_get}
use Rattle.spdx_requirement.specs.declared.requirement.LicenseReq.{LicenseReq}
use Rattle.spdx_requirement.specs.Items.{Requirement, requirement_of}
use Rattle.spdx_policy.specs.declared.decision.Entry.{Entry}
use Rattle.spdx_policy.specs.declared.decision.Entry.TheVariants as entry
use Rattle.spdx_policy.specs.declared.decision.Decision.TheVariants as decision
use Rattle.spdx_policy.specs.Rules.{Rules, allowed_by}
use Rattle.spdx_policy.specs.Decisions.{or_else, names, is_exposed, entry_denies, flag_denies, flag_allows, is_denied_way, is_allowed_way, denied_by, at_free, frees, flag_frees, exempted_by, allowed_among, denied_among, decision_among, is_denied, is_allowed, has_free_way, has_denied_ways}

found_from : {A : Type 0} (test : A → Bool) (i : ℕ) (xs : List A) → is_some (position_from test i xs) ≡ list_any test xs
found_from test i [] = refl
found_from {A} test i (x ∷ xs) = by (test x) (found_from test (i + 1) xs)
  where
    by : (b : Bool) → is_some (position_from test (i + 1) xs) ≡ list_any test xs → is_some (cond b (Some i) (position_from test (i + 1) xs)) ≡ (b || list_any test xs)
    by true e = refl
    by false e = e

pub found : {A : Type 0} (test : A → Bool) (xs : List A) → is_some (position test xs) ≡ list_any test xs
found test xs = ap is_some (position_from-zero test xs) ∙ found_from test 0 xs

pub is_some-map : {A B : Type 0} (f : A → B) (o : Option A) → is_some (option_map f o) ≡ is_some o
is_some-map f None = refl
is_some-map f (Some x) = refl

pub is_some-or_else : {A : Type 0} (a b : Option A) → is_some (or_else a b) ≡ (is_some a || is_some b)
is_some-or_else None b = refl
is_some-or_else (Some x) b = refl

-- the first of one list, or else of another
pub found_either : {A B : Type 0} (f : ℕ → Entry) (g : ℕ → Entry) (s : A → Bool) (t : B → Bool) (xs : List A) (ys : List B)
    → is_some (or_else (option_map f (position s xs)) (option_map g (position t ys))) ≡ (list_any s xs || list_any t ys)
found_either f g s t xs ys =
    is_some-or_else (option_map f (position s xs)) (option_map g (position t ys))
    ∙ ap (λ b. b || is_some (option_map g (position t ys))) (is_some-map f (position s xs) ∙ found s xs)
    ∙ ap (λ b. list_any s xs || b) (is_some-map g (position t ys) ∙ found t ys)

-- a licence with its addition is denied exactly if some entry denies it
pub denied_by_some : (p : Rules) (tables : List ℕ) (w : Requirement)
    → is_denied_way p tables w ≡ (list_any (entry_denies (is_exposed p tables w) w) p.deny || list_any (flag_denies (is_exposed p tables w) w) p.deny_if)
denied_by_some p tables w = found_either entry.Deny entry.DenyIf (entry_denies (is_exposed p tables w) w) (flag_denies (is_exposed p tables w) w) p.deny p.deny_if

or_both : (a b c d : Bool) → ((a || b) || (c || d)) ≡ ((a || c) || (b || d))
or_both true b c d = refl
or_both false true true d = refl
or_both false true false d = refl
or_both false false c d = refl

pub any_or : {A : Type 0} (f g : A → Bool) (xs : List A) → list_any (λ x. f x || g x) xs ≡ (list_any f xs || list_any g xs)
any_or f g [] = refl
any_or f g (x ∷ xs) = ap (λ b. (f x || g x) || b) (any_or f g xs) ∙ or_both (f x) (g x) (list_any f xs) (list_any g xs)

pub any_same : {A : Type 0} (f g : A → Bool) (xs : List A) → ((x : A) → f x ≡ g x) → list_any f xs ≡ list_any g xs
any_same f g [] e = refl
any_same f g (x ∷ xs) e = ap (λ b. b || list_any f xs) (e x) ∙ ap (λ b. g x || b) (any_same f g xs e)

pub any_none : {A : Type 0} (xs : List A) → list_any (λ x. false) xs ≡ false
any_none [] = refl
any_none (x ∷ xs) = any_none xs

both_or : (a b c : Bool) → ((a || b) && c) ≡ ((a && c) || (b && c))
both_or true true true = refl
both_or true true false = refl
both_or true false true = refl
both_or true false false = refl
both_or false b c = refl

-- some entry stands for some way that is free, exactly if some free way has an entry that stands for it
pub swapped : {A B : Type 0} (f : A → B → Bool) (g : A → Bool) (ws : List A) (ns : List B)
    → list_any (λ n. list_any (λ w. f w n && g w) ws) ns ≡ list_any (λ w. list_any (f w) ns && g w) ws
swapped f g ws [] = sym (any_none ws)
swapped f g ws (n ∷ ns) =
    ap (λ b. list_any (λ w. f w n && g w) ws || b) (swapped f g ws ns)
    ∙ sym (any_or (λ w. f w n && g w) (λ w. list_any (f w) ns && g w) ws)
    ∙ any_same (λ w. (f w n && g w) || (list_any (f w) ns && g w)) (λ w. (f w n || list_any (f w) ns) && g w) ws (λ w. sym (both_or (f w n) (list_any (f w) ns) (g w)))

exempted_by_some : (p : Rules) (held tables : List ℕ) (ws : List Requirement)
    → is_some (exempted_by p held tables ws) ≡ list_any (λ table. list_any (frees p held ws) (allowed_by p table)) tables
exempted_by_some p held [] ws = refl
exempted_by_some p held (table ∷ tables) ws =
    is_some-or_else (option_map (entry.Exception table) (position (frees p held ws) (allowed_by p table))) (exempted_by p held tables ws)
    ∙ ap (λ b. b || is_some (exempted_by p held tables ws)) (is_some-map (entry.Exception table) (position (frees p held ws) (allowed_by p table)) ∙ found (frees p held ws) (allowed_by p table))
    ∙ ap (λ b. list_any (frees p held ws) (allowed_by p table) || b) (exempted_by_some p held tables ws)

-- the test that nothing denies it
abbrev free : Rules → List ℕ → Requirement → Bool
free p tables w = not (is_denied_way p tables w)

exempted_ways : (p : Rules) (held tables : List ℕ) (ws : List Requirement)
    → list_any (λ table. list_any (frees p held ws) (allowed_by p table)) tables ≡ list_any (λ w. list_any (λ table. list_any (names w) (allowed_by p table)) tables && free p held w) ws
exempted_ways p held tables ws =
    any_same (λ table. list_any (frees p held ws) (allowed_by p table)) (λ table. list_any (λ w. list_any (names w) (allowed_by p table) && free p held w) ws) tables
    (λ table. swapped names (free p held) ws (allowed_by p table))
    ∙ swapped (λ w table. list_any (names w) (allowed_by p table)) (free p held) ws tables

or_three : (a b c : Bool) → (a || (b || c)) ≡ ((b || a) || c)
or_three true true c = refl
or_three true false c = refl
or_three false true c = refl
or_three false false c = refl

and_over : (a b c g : Bool) → ((a && g) || ((b && g) || (c && g))) ≡ (((b || a) || c) && g)
and_over true true true true = refl
and_over true true true false = refl
and_over true true false true = refl
and_over true true false false = refl
and_over true false true true = refl
and_over true false true false = refl
and_over true false false true = refl
and_over true false false false = refl
and_over false true c true = refl
and_over false true true false = refl
and_over false true false false = refl
and_over false false true true = refl
and_over false false true false = refl
and_over false false false true = refl
and_over false false false false = refl

-- some entry allows them exactly if one of them is allowed and not denied
pub allowed_by_some : (p : Rules) (tables : List ℕ) (ws : List Requirement) → is_some (allowed_among p tables ws) ≡ has_free_way p tables ws
allowed_by_some p tables ws =
    let byname = λ (w : Requirement). list_any (names w) p.allow in
    let byflag = λ (w : Requirement). list_any (flag_allows w) p.allow_if in
    let bytable = λ (w : Requirement). list_any (λ table. list_any (names w) (allowed_by p table)) tables in
    let g = free p tables in
    is_some-or_else (exempted_by p tables tables ws) (or_else (option_map entry.Allow (position (frees p tables ws) p.allow)) (option_map entry.AllowIf (position (flag_frees p tables ws) p.allow_if)))
    ∙ ap (λ b. b || is_some (or_else (option_map entry.Allow (position (frees p tables ws) p.allow)) (option_map entry.AllowIf (position (flag_frees p tables ws) p.allow_if))))
    (exempted_by_some p tables tables ws ∙ exempted_ways p tables tables ws)
    ∙ ap (λ b. list_any (λ w. bytable w && g w) ws || b)
    (found_either entry.Allow entry.AllowIf (frees p tables ws) (flag_frees p tables ws) p.allow p.allow_if
    ∙ ap (λ b. b || list_any (flag_frees p tables ws) p.allow_if) (swapped names g ws p.allow)
    ∙ ap (λ b. list_any (λ w. byname w && g w) ws || b) (swapped flag_allows g ws p.allow_if))
    ∙ ap (λ b. list_any (λ w. bytable w && g w) ws || b) (sym (any_or (λ w. byname w && g w) (λ w. byflag w && g w) ws))
    ∙ sym (any_or (λ w. bytable w && g w) (λ w. (byname w && g w) || (byflag w && g w)) ws)
    ∙ any_same (λ w. (bytable w && g w) || ((byname w && g w) || (byflag w && g w))) (λ w. is_allowed_way p tables w && g w) ws
    (λ w. and_over (bytable w) (byname w) (byflag w) (g w))

pub is_allowed-by : (a d : Option Entry) → is_allowed (unwrap_or (or_else (option_map decision.Allowed a) (option_map decision.Denied d)) decision.Open) ≡ is_some a
is_allowed-by (Some e) d = refl
is_allowed-by None (Some e) = refl
is_allowed-by None None = refl

pub allowed_exactly : (p : Rules) (tables : List ℕ) (ws : List Requirement) → is_allowed (decision_among p tables ws) ≡ has_free_way p tables ws
allowed_exactly p tables ws = is_allowed-by (allowed_among p tables ws) (denied_among p tables ws) ∙ allowed_by_some p tables ws

-- where all of them are denied, none is free
denied_head : (d t all free : Bool) → (all ≡ true → free ≡ false) → (d && all) ≡ true → ((t && not d) || free) ≡ false
denied_head true true all free h e = h e
denied_head true false all free h e = h e
denied_head false t all free h e = absurd (cc)

none_free : (p : Rules) (tables : List ℕ) (test : Requirement → Bool) (ws : List Requirement) → list_all (is_denied_way p tables) ws ≡ true → at_free p tables test ws ≡ false
none_free p tables test [] e = refl
none_free p tables test (w ∷ ws) e = denied_head (is_denied_way p tables w) (test w) (list_all (is_denied_way p tables) ws) (at_free p tables test ws) (none_free p tables test ws) e

is_denied-none : (d : Option Entry) → is_denied (unwrap_or (or_else (option_map decision.Allowed None) (option_map decision.Denied d)) decision.Open) ≡ is_some d
is_denied-none None = refl
is_denied-none (Some e) = refl

denied_first : (p : Rules) (tables : List ℕ) (w : Requirement) (ws : List Requirement) → is_some (denied_among p tables (w ∷ ws)) ≡ list_all (is_denied_way p tables) (w ∷ ws)
denied_first p tables w ws = by (denied_by p tables w) (list_all (is_denied_way p tables) ws)
  where
    by : (d : Option Entry) (all : Bool) → is_some (cond (is_some d && all) d None) ≡ (is_some d && all)
    by (Some e) true = refl
    by (Some e) false = refl
    by None all = refl

pub denied_exactly : (p : Rules) (tables : List ℕ) (ws : List Requirement) → is_denied (decision_among p tables ws) ≡ has_denied_ways p tables ws
denied_exactly p tables [] = by (allowed_among p tables []) (allowed_by_some p tables [])
  where
    by : (a : Option Entry) → is_some a ≡ false → is_denied (unwrap_or (or_else (option_map decision.Allowed a) None) decision.Open) ≡ false
    by None e = refl
    by (Some x) e = refl
denied_exactly p tables (w ∷ ws) = by (allowed_among p tables (w ∷ ws)) (list_all (is_denied_way p tables) (w ∷ ws)) (allowed_by_some p tables (w ∷ ws)) (none_free p tables (is_allowed_way p tables) (w ∷ ws)) (denied_first p tables w ws)
  where
    by : (a : Option Entry) (all : Bool) → is_some a ≡ has_free_way p tables (w ∷ ws) → (all ≡ true → has_free_way p tables (w ∷ ws) ≡ false) → is_some (denied_among p tables (w ∷ ws)) ≡ all
        → is_denied (unwrap_or (or_else (option_map decision.Allowed a) (option_map decision.Denied (denied_among p tables (w ∷ ws)))) decision.Open) ≡ all
    by None all e none d = is_denied-none (denied_among p tables (w ∷ ws)) ∙ d
    by (Some x) false e none d = refl
    by (Some x) true e none d = let bad : true ≡ false = e ∙ none refl in absurd (cc)

-- the first of some, and what denies it
pub denied_first_of : (p : Rules) (tables : List ℕ) (ws : List LicenseReq) (w : LicenseReq) (d : Option Entry) → Some w ≡ slice_get ws 0
    → list_all (is_denied_way p tables) (map requirement_of ws) ≡ true → d ≡ denied_by p tables (requirement_of w) → d ≡ denied_among p tables (map requirement_of ws)
denied_first_of p tables [] w d at all is = let bad : Some w ≡ None = at in absurd (cc)
denied_first_of p tables (x ∷ ws) w d at all is =
    let same : w ≡ x = first_once w x at in
    is ∙ ap (λ (r : LicenseReq). denied_by p tables (requirement_of r)) same
    ∙ ap (λ (b : Bool). cond b (denied_by p tables (requirement_of x)) None) (sym all)
  where
    first_once : {A : Type 0} (a b : A) → Some a ≡ Some b → a ≡ b
    first_once a b e = cc
