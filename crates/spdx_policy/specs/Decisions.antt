-- What a policy says of a requirement, by the licences under which it may be had.
use Rattle.std.specs.Prelude.{ℕ, Bool, true, false, not, ◌&&◌, ◌||◌, List, [], ◌∷◌, Option, Some, None, option_map, option_and_then, slice_get, is_some, unwrap_or, if◌then◌else◌}
use Rattle.std.specs.List.{position, list_any, list_all}
use Rattle.spdx_requirement.specs.Flags.{is_fsf_free_libre, is_osi_approved, is_deprecated, is_copyleft}
use Rattle.spdx_requirement.specs.Items.{LicenseTerm, listed, referred, Addition, excepted, added, Requirement}
use Rattle.spdx_licensee.specs.Sense.{sense}
use Rattle.spdx_licensee.specs.Ways.{stands_for, ways}
use Rattle.spdx_policy.specs.declared.decision.Flag.{Flag}
use Rattle.spdx_policy.specs.declared.decision.Flag.TheVariants as flag
use Rattle.spdx_policy.specs.declared.decision.Entry.{Entry}
use Rattle.spdx_policy.specs.declared.decision.Entry.TheVariants as entry
use Rattle.spdx_policy.specs.declared.decision.Decision.{Decision}
use Rattle.spdx_policy.specs.declared.decision.Decision.TheVariants as decision
use Rattle.spdx_policy.specs.Rules.{NamedRow, Rules, allowed_by}

-- ---- a licence with its addition

-- the flag among the bits of a licence's row
abbrev pub is_set : Flag → ℕ → Bool
is_set flag.OsiApproved bits = is_osi_approved bits
is_set flag.FsfLibre bits = is_fsf_free_libre bits
is_set flag.Copyleft bits = is_copyleft bits
is_set flag.Deprecated bits = is_deprecated bits

-- the licence has the flag; a reference has none
abbrev pub license_has : Flag → LicenseTerm → Bool
license_has f (listed row mark) = is_set f row.flags
license_has f (referred r) = false

-- the addition has the flag: a listed exception that is deprecated
abbrev pub addition_has : Flag → Option Addition → Bool
addition_has flag.Deprecated (Some (excepted row)) = is_deprecated row.flags
addition_has f a = false

-- nothing is known of a reference
abbrev pub is_listed_license : LicenseTerm → Bool
is_listed_license (listed row mark) = true
is_listed_license (referred r) = false

abbrev pub is_listed_addition : Option Addition → Bool
is_listed_addition None = true
is_listed_addition (Some (excepted row)) = true
is_listed_addition (Some (added r)) = false

abbrev pub is_listed : Requirement → Bool
is_listed r = is_listed_license r.license && is_listed_addition r.addition

-- the entry stands for the licence with its addition
abbrev pub names : Requirement → NamedRow → Bool
names w n = stands_for n.sense w

-- the same licence without its addition
abbrev pub alone : Requirement → Requirement
alone w = record { license = w.license; addition = None }

-- `allow`, or an exception that holds, stands for just that
abbrev pub is_named : Rules → List ℕ → Requirement → Bool
is_named p tables w =
    list_any (names w) p.allow || list_any (λ table. list_any (names w) (allowed_by p table)) tables

-- What is denied without an addition is denied with any, unless that very pair is named.
abbrev pub is_exposed : Rules → List ℕ → Requirement → Bool
is_exposed p tables w = not (is_some w.addition && is_named p tables w)

-- an entry of `deny` denies what it stands for, and with any addition what it stands for without
-- one
abbrev pub entry_denies : Bool → Requirement → NamedRow → Bool
entry_denies exposed w n = names w n || (exposed && names (alone w) n)

-- a denying flag looks at the licence and at the addition
abbrev pub flag_denies : Bool → Requirement → Flag → Bool
flag_denies exposed w f = addition_has f w.addition || (exposed && license_has f w.license)

-- an allowing flag looks at them only where both are listed
abbrev pub flag_allows : Requirement → Flag → Bool
flag_allows w f = is_listed w && (license_has f w.license || addition_has f w.addition)

-- the one, or else the other
abbrev pub or_else : {A : Type 0} → Option A → Option A → Option A
or_else None next = next
or_else (Some x) next = Some x

-- the first entry that denies a licence with its addition, where what denies the licence alone
-- counts or not
abbrev pub denied_where : Bool → Rules → Requirement → Option Entry
denied_where exposed p w =
    or_else (option_map entry.Deny (position (entry_denies exposed w) p.deny))
    (option_map entry.DenyIf (position (flag_denies exposed w) p.deny_if))

-- the same under the exceptions that hold
abbrev pub denied_by : Rules → List ℕ → Requirement → Option Entry
denied_by p tables w = denied_where (is_exposed p tables w) p w

abbrev pub is_denied_way : Rules → List ℕ → Requirement → Bool
is_denied_way p tables w = is_some (denied_by p tables w)

-- some entry allows it, whatever is denied
abbrev pub is_allowed_way : Rules → List ℕ → Requirement → Bool
is_allowed_way p tables w = is_named p tables w || list_any (flag_allows w) p.allow_if

-- ---- the ways of a requirement

-- the test passes at one of these that nothing denies
abbrev pub at_free : Rules → List ℕ → (Requirement → Bool) → List Requirement → Bool
at_free p tables test ws = list_any (λ w. test w && not (is_denied_way p tables w)) ws

-- an entry allows them if it stands for one that nothing denies
abbrev pub frees : Rules → List ℕ → List Requirement → NamedRow → Bool
frees p tables ws n = at_free p tables (λ w. names w n) ws

abbrev pub flag_frees : Rules → List ℕ → List Requirement → Flag → Bool
flag_frees p tables ws f = at_free p tables (λ w. flag_allows w f) ws

-- the first entry that allows them among what these exceptions allow, exception by exception; all
-- of them hold
abbrev pub exempted_by : Rules → List ℕ → List ℕ → List Requirement → Option Entry
exempted_by p held [] ws = None
exempted_by p held (table ∷ tables) ws =
    or_else (option_map (entry.Exception table) (position (frees p held ws) (allowed_by p table)))
    (exempted_by p held tables ws)

-- the first entry that allows them: of the exceptions, of `allow`, of `allow-if`
abbrev pub allowed_among : Rules → List ℕ → List Requirement → Option Entry
allowed_among p tables ws =
    or_else (exempted_by p tables tables ws)
    (or_else (option_map entry.Allow (position (frees p tables ws) p.allow))
    (option_map entry.AllowIf (position (flag_frees p tables ws) p.allow_if)))

-- where each of them is denied, the first entry that denies the first of them
abbrev pub denied_among : Rules → List ℕ → List Requirement → Option Entry
denied_among p tables ws =
    if list_all (is_denied_way p tables) ws
    then option_and_then (denied_by p tables) (slice_get ws 0) else None

abbrev pub decision_among : Rules → List ℕ → List Requirement → Decision
decision_among p tables ws =
    unwrap_or
    (or_else (option_map decision.Allowed (allowed_among p tables ws))
    (option_map decision.Denied (denied_among p tables ws)))
    decision.Open

-- the licences under which a requirement may be had, by the policy's list
abbrev pub ways_of : Rules → Requirement → List Requirement
ways_of p r = ways p.list (sense p.list p.replacements r)

-- what the policy says of a requirement
abbrev pub decision_of : Rules → List ℕ → Requirement → Decision
decision_of p tables r = decision_among p tables (ways_of p r)

-- ---- what a decision is

abbrev pub is_denied : Decision → Bool
is_denied (decision.Denied e) = true
is_denied (decision.Allowed e) = false
is_denied decision.Open = false

abbrev pub is_allowed : Decision → Bool
is_allowed (decision.Allowed e) = true
is_allowed (decision.Denied e) = false
is_allowed decision.Open = false

-- some licence under which it may be had is allowed and not denied
abbrev pub has_free_way : Rules → List ℕ → List Requirement → Bool
has_free_way p tables ws = at_free p tables (is_allowed_way p tables) ws

-- there is one, and each of them is denied
abbrev pub has_denied_ways : Rules → List ℕ → List Requirement → Bool
has_denied_ways p tables [] = false
has_denied_ways p tables (w ∷ ws) = list_all (is_denied_way p tables) (w ∷ ws)
