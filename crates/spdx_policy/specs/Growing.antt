-- Policies with one entry more.
use Rattle.std.specs.Prelude.{◌≡◌, true, ℕ, suc, zero, List, [], ◌∷◌, ◌++◌}
use Rattle.spdx_requirement.specs.Items.{Requirement}
use Rattle.spdx_policy.specs.declared.decision.Flag.{Flag}
use Rattle.spdx_policy.specs.Rules.{NamedRow, Rules}
use Rattle.spdx_policy.specs.Decisions.{decision_of, is_allowed}

-- the lists of exceptions with one more entry in the one of that number
abbrev pub with_entry_in : ℕ → NamedRow → List (List NamedRow) → List (List NamedRow)
with_entry_in table n [] = []
with_entry_in zero n (list ∷ lists) = (list ++ n ∷ []) ∷ lists
with_entry_in (suc table) n (list ∷ lists) = list ∷ with_entry_in table n lists

abbrev pub with_allowed : Rules → List NamedRow → Rules
with_allowed p ns = record p { allow = p.allow ++ ns }

abbrev pub with_denied : Rules → List NamedRow → Rules
with_denied p ns = record p { deny = p.deny ++ ns }

abbrev pub with_denied_flags : Rules → List Flag → Rules
with_denied_flags p fs = record p { deny_if = p.deny_if ++ fs }

abbrev pub with_exempted : Rules → ℕ → NamedRow → Rules
with_exempted p table n = record p { exempting = with_entry_in table n p.exempting }

-- what the one policy allows, the other allows
abbrev pub AllowsAsMuch : List ℕ → Rules → Rules → Type 0
AllowsAsMuch tables p q =
    (r : Requirement) → is_allowed (decision_of p tables r) ≡ true →
    is_allowed (decision_of q tables r) ≡ true

-- entries more in `deny` or `deny-if` allow nothing more, entries more in `allow` or in an
-- exception refuse nothing more
pub record GrowsRight (p : Rules) (tables : List ℕ) : Type 0 where
  pub more_denied : (ns : List NamedRow) → AllowsAsMuch tables (with_denied p ns) p
  pub more_flags_denied : (fs : List Flag) → AllowsAsMuch tables (with_denied_flags p fs) p
  pub more_allowed : (ns : List NamedRow) → AllowsAsMuch tables p (with_allowed p ns)
  pub more_exempted : (table : ℕ) (n : NamedRow) → AllowsAsMuch tables p (with_exempted p table n)
