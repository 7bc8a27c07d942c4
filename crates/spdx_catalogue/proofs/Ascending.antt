-- What holds of each row of a well-formed catalogue: the rules, and that names ascend.
use Rattle.std.proofs.Common.{◌≡◌, ℕ, suc, ◌<◌, Bool, true, false, cond, not, List, [], ◌∷◌, ◌++◌, length, get_or, Option, Some, None, is_none, refl, sym, ◌∙◌, subst, arith}
use Rattle.std.specs.Prelude.{slice_get, is_some, option_map, ◌==◌, ◌&&◌}
use Rattle.std.specs.Option.{option_map_or}
use Rattle.std.specs.Ordering.{nat_cmp, is_lt}
use Rattle.std.specs.declared.cmp.Ordering.{Ordering}
use Rattle.std.specs.declared.cmp.Ordering.TheVariants.{Less, Equal, Greater}
use Rattle.std.specs.Cmp.Lexicographic.{slice_cmp}
use Rattle.spdx_requirement.specs.Rows.{Rows, LicenseRow, ExceptionRow, ImpreciseRow, license_name, exception_name}
use Rattle.spdx_catalogue.specs.declared.error.CatalogueError.{CatalogueError}
use Rattle.spdx_catalogue.specs.LookUps.{listed}
use Rattle.spdx_catalogue.specs.Names.{is_above, is_name, is_operator, has_two_suffixes}
use Rattle.spdx_catalogue.specs.declared.error.List as kind
use Rattle.spdx_catalogue.specs.declared.error.List.TheVariants.{Licenses, Exceptions}
use Rattle.spdx_catalogue.specs.declared.error.CatalogueError.TheVariants.{BadName, OperatorName, NotAscending, BadIndex, TwoSuffixes, EmptyPrefix, UnlistedTarget}
use Rattle.spdx_requirement.specs.Flags.{is_gnu}
use Rattle.spdx_catalogue.specs.RowRules.{RowRule, name_rules, license_row_rules, exception_row_rules, imprecise_row_rules, first_fault, is_well_formed}
use Rattle.spdx_catalogue.proofs.Table.{license_rules, exception_rules, fault_is}
use Rattle.spdx_catalogue.specs.RowChecks.{first_broken, all_below, before, rules_at, imprecise_rules}
use Rattle.spdx_catalogue.proofs.First.{none_front, none_back, below_each}
use Rattle.spdx_catalogue.specs.Ascent.{Ascends}
use Rattle.spdx_catalogue.proofs.Sorted.{get_is}

none_is : (o : Option CatalogueError) → is_none o ≡ true → o ≡ None
none_is None h = refl
none_is (Some e) h = absurd cc

later : (r : RowRule) (rs : List RowRule) → first_broken (r ∷ rs) ≡ None → (r.0 ≡ false) × (first_broken rs ≡ None)
later r rs h = pick r.0 h
  where
    pick : (b : Bool) → cond b (Some r.1) (first_broken rs) ≡ None → (b ≡ false) × (first_broken rs ≡ None)
    pick true g = absurd cc
    pick false g = (refl, g)

not_false : (b : Bool) → not b ≡ false → b ≡ true
not_false true h = refl
not_false false h = absurd cc

less : (o : Ordering) → is_lt o ≡ true → o ≡ Less
less Less h = refl
less Equal h = absurd cc
less Greater h = absurd cc

-- the rules of a name, each kept
pub record KeepsNameRules (previous : Option (List ℕ)) (name : List ℕ) (index row : ℕ) : Type 0 where
  pub named : is_name name ≡ true
  pub no_operator : is_operator name ≡ false
  pub above : is_above previous name ≡ true
  pub placed : (index == row) ≡ true

keeps_name : (list : kind.List) (name : List ℕ) (previous : Option (List ℕ)) (index row : ℕ) → first_broken (name_rules list name previous index row) ≡ None → KeepsNameRules previous name index row
keeps_name list name previous index row h =
    let fourth : List RowRule = (not (index == row), BadIndex list row) ∷ [] in
    let third : List RowRule = (not (is_above previous name), NotAscending list row) ∷ fourth in
    let second : List RowRule = (is_operator name, OperatorName list row) ∷ third in
    let a = later (not (is_name name), BadName list row) second h in
    let b = later (is_operator name, OperatorName list row) third a.1 in
    let c = later (not (is_above previous name), NotAscending list row) fourth b.1 in
    let d = later (not (index == row), BadIndex list row) [] c.1 in
    record { named = not_false (is_name name) a.0; no_operator = b.0; above = not_false (is_above previous name) c.0; placed = not_false (index == row) d.0 }

-- a list whose rows keep rules that say of each what the rules of a name say
module _ {A : Type 0} (key : A → List ℕ) (index : A → ℕ) (rules : Option (List ℕ) → ℕ → A → List RowRule)
    (by_name : (previous : Option (List ℕ)) (i : ℕ) (r : A) → first_broken (rules previous i r) ≡ None → KeepsNameRules previous (key r) (index r) i)
    (l : List A) (keep : first_broken (all_below (rules_at key rules l) (length l)) ≡ None) where
  rules_kept : (i : ℕ) (r : A) → i < length l → slice_get l i ≡ Some r → first_broken (rules (option_map key (before l i)) i r) ≡ None
  rules_kept i r lt at = subst (λ o. first_broken (option_map_or (rules (option_map key (before l i)) i) o []) ≡ None) at (below_each (rules_at key rules l) (length l) i lt keep)

  name_kept : (i : ℕ) (r : A) → i < length l → slice_get l i ≡ Some r → KeepsNameRules (option_map key (before l i)) (key r) (index r) i
  name_kept i r lt at = by_name (option_map key (before l i)) i r (rules_kept i r lt at)

  ascends : Ascends key l
  unfolding Ascends
  ascends i d lt =
      let a : A = get_or l i d in
      let b : A = get_or l (suc i) d in
      let above : is_above (option_map key (slice_get l i)) (key b) ≡ true = (name_kept (suc i) b lt (get_is l (suc i) d lt)).above in
      less (slice_cmp nat_cmp (key a) (key b)) (subst (λ o. is_above (option_map key o) (key b) ≡ true) (get_is l i d (omega arith)) above)

abbrev license_ending : ℕ → LicenseRow → List RowRule
license_ending i r = (is_gnu r.flags && has_two_suffixes r.name, TwoSuffixes i) ∷ []

license_by_name : (previous : Option (List ℕ)) (i : ℕ) (r : LicenseRow) → first_broken (license_row_rules previous i r) ≡ None → KeepsNameRules previous r.name r.index i
license_by_name previous i r h = keeps_name Licenses r.name previous r.index i (none_front (name_rules Licenses r.name previous r.index i) (license_ending i r) h)

exception_by_name : (previous : Option (List ℕ)) (i : ℕ) (r : ExceptionRow) → first_broken (exception_row_rules previous i r) ≡ None → KeepsNameRules previous r.name r.index i
exception_by_name previous i r h = keeps_name Exceptions r.name previous r.index i h

module _ (l : List LicenseRow) (keep : first_broken (all_below (license_rules l) (length l)) ≡ None) where
  pub license_kept : (i : ℕ) (r : LicenseRow) → i < length l → slice_get l i ≡ Some r → KeepsNameRules (option_map license_name (before l i)) r.name r.index i × ((is_gnu r.flags && has_two_suffixes r.name) ≡ false)
  license_kept i r lt at =
      let previous : Option (List ℕ) = option_map license_name (before l i) in
      let here = rules_kept license_name (λ (x : LicenseRow). x.index) license_row_rules license_by_name l keep i r lt at in
      let ending = none_back (name_rules Licenses r.name previous r.index i) (license_ending i r) here in
      (license_by_name previous i r here, (later (is_gnu r.flags && has_two_suffixes r.name, TwoSuffixes i) [] ending).0)

  pub licenses_ascend : Ascends license_name l
  licenses_ascend = ascends license_name (λ (x : LicenseRow). x.index) license_row_rules license_by_name l keep

module _ (l : List ExceptionRow) (keep : first_broken (all_below (exception_rules l) (length l)) ≡ None) where
  pub exception_kept : (i : ℕ) (r : ExceptionRow) → i < length l → slice_get l i ≡ Some r → KeepsNameRules (option_map exception_name (before l i)) r.name r.index i
  exception_kept = name_kept exception_name (λ (x : ExceptionRow). x.index) exception_row_rules exception_by_name l keep

  pub exceptions_ascend : Ascends exception_name l
  exceptions_ascend = ascends exception_name (λ (x : ExceptionRow). x.index) exception_row_rules exception_by_name l keep

module _ (l : List LicenseRow) (ms : List ImpreciseRow) (keep : first_broken (all_below (imprecise_rules l ms) (length ms)) ≡ None) where
  pub imprecise_row_kept : (i : ℕ) (r : ImpreciseRow) → i < length ms → slice_get ms i ≡ Some r → ((length r.prefix == 0) ≡ false) × (is_some (listed l r.name) ≡ true)
  imprecise_row_kept i r lt at =
      let target : List RowRule = (not (is_some (listed l r.name)), UnlistedTarget i) ∷ [] in
      let a = later (length r.prefix == 0, EmptyPrefix i) target (subst (λ o. first_broken (option_map_or (imprecise_row_rules l i) o []) ≡ None) at (below_each (imprecise_rules l ms) (length ms) i lt keep)) in
      (a.0, not_false (is_some (listed l r.name)) (later (not (is_some (listed l r.name)), UnlistedTarget i) [] a.1).0)

-- each list of a well-formed catalogue keeps its rules
module _ (c : Rows) (well : is_well_formed c ≡ true) where
  abbrev names : List RowRule
  names = all_below (license_rules c.licenses) (length c.licenses)

  abbrev excepted : List RowRule
  excepted = all_below (exception_rules c.exceptions) (length c.exceptions)

  abbrev spelled : List RowRule
  spelled = all_below (imprecise_rules c.licenses c.imprecise) (length c.imprecise)

  broken : first_broken (names ++ (excepted ++ spelled)) ≡ None
  broken = sym (fault_is c) ∙ none_is (first_fault c) well

  pub licenses_keep : first_broken (all_below (license_rules c.licenses) (length c.licenses)) ≡ None
  licenses_keep = none_front names (excepted ++ spelled) broken

  pub exceptions_keep : first_broken (all_below (exception_rules c.exceptions) (length c.exceptions)) ≡ None
  exceptions_keep = none_front excepted spelled (none_back names (excepted ++ spelled) broken)

  pub imprecise_keep : first_broken (all_below (imprecise_rules c.licenses c.imprecise) (length c.imprecise)) ≡ None
  imprecise_keep = none_back excepted spelled (none_back names (excepted ++ spelled) broken)
