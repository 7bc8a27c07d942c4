-- The licences that a phrase may mean.
use Rattle.std.specs.Prelude.{◌≡◌, ◌≢◌, ℕ, Bool, false, not, ◌&&◌, ◌==◌, nat_le, List, [], ◌∷◌, ◌++◌, length, map, filter, find, if◌then◌else◌, Option, None, Some, All, Contains}
use Rattle.std.specs.Option.{option_map_or}
use Rattle.spdx_requirement.specs.Rows.{Rows, LicenseRow, ImpreciseRow, license_name}
use Rattle.spdx_requirement.specs.Flags.{is_deprecated, is_osi_approved}
use Rattle.spdx_hints.specs.Words.{has_words, has_numbers}
use Rattle.spdx_hints.specs.Plain.{plain_of}
use Rattle.spdx_hints.specs.Rules.{spellings, may_be_meant}
use Rattle.spdx_hints.specs.declared.rule.Rule.{Rule}
use Rattle.spdx_hints.specs.declared.rule.Rule.TheVariants.{SameWords, SameTitle, SameFamily, OtherVersion, OneEdit, TwoEdits}

-- in the order in which they are asked
abbrev pub rules_asked : List Rule
rules_asked = SameWords ∷ SameTitle ∷ SameFamily ∷ OtherVersion ∷ OneEdit ∷ TwoEdits ∷ []

abbrev pub is_approved : LicenseRow → Bool
is_approved r = is_osi_approved r.flags

-- six at most, or none
abbrev pub six_or_none : List LicenseRow → List LicenseRow
six_or_none rows = if nat_le (length rows) 6 then rows else []

-- where there are more than six, those that the Open Source Initiative has approved, if these are
-- six at most
abbrev pub few : List LicenseRow → List LicenseRow
few rows = if nat_le (length rows) 6 then rows else six_or_none (filter is_approved rows)

-- the licences that the rule gives, where these imprecise names have the phrase's words
abbrev pub given_by : List ImpreciseRow → List ℕ → List LicenseRow → Rule → List LicenseRow
given_by found phrase rows rule = few (filter (may_be_meant rule found phrase) rows)

-- a phrase of at most 128 bytes that has a word or a number
abbrev pub can_mean : List ℕ → Bool
can_mean phrase = nat_le (length phrase) 128 && not (has_words [] phrase && has_numbers [] phrase)

-- these are some
abbrev pub gives : List ImpreciseRow → List ℕ → List LicenseRow → Rule → Bool
gives found phrase rows rule = not (length (given_by found phrase rows rule) == 0)

-- the licences that the rule gives, if the phrase can mean any
abbrev pub meant_by : Rows → List ℕ → Rule → List LicenseRow
meant_by c phrase rule =
    if can_mean phrase then given_by (spellings c.imprecise phrase) phrase c.licenses rule else []

-- they are some
abbrev pub means_by : Rows → List ℕ → Rule → Bool
means_by c phrase rule = not (length (meant_by c phrase rule) == 0)

-- the names that the rule gives, for the phrase without links and the dots of initials
unfoldable pub names_by : Rows → List ℕ → Rule → List (List ℕ)
names_by c phrase rule = map license_name (meant_by c (plain_of phrase) rule)

-- they are some
abbrev pub gives_names : Rows → List ℕ → Rule → Bool
gives_names c phrase rule = not (length (names_by c phrase rule) == 0)

-- the first rule that gives any names
unfoldable pub rule_of : Rows → List ℕ → Option Rule
rule_of c phrase = find (gives_names c phrase) rules_asked

-- the names that this rule gives, where there is one
unfoldable pub hints_of : Rows → List ℕ → List (List ℕ)
hints_of c phrase = option_map_or (names_by c phrase) (rule_of c phrase) []

-- The rule gives these names for the phrase, and they are some; those that are asked before it give
-- none.
pub record IsFirst (c : Rows) (phrase : List ℕ) (names : List (List ℕ)) (rule : Rule) : Type 0 where
  pub given : names ≡ names_by c phrase rule
  pub some : names ≢ []
  pub before : List Rule
  pub behind : List Rule
  pub order : rules_asked ≡ before ++ rule ∷ behind
  pub silent : All (λ other. names_by c phrase other ≡ []) before

-- the names are those of the first rule that gives any; where no rule does, there are none
abbrev pub AreOfRule : Rows → List ℕ → List (List ℕ) → Option Rule → Type 0
AreOfRule c phrase names None = (names ≡ []) × All (λ rule. names_by c phrase rule ≡ []) rules_asked
AreOfRule c phrase names (Some rule) = IsFirst c phrase names rule

-- the name of a listed licence that is not deprecated
pub record IsGoodName (c : Rows) (name : List ℕ) : Type 0 where
  pub row : LicenseRow
  pub listed : Contains c.licenses row
  pub undeprecated : is_deprecated row.flags ≡ false
  pub is : row.name ≡ name
