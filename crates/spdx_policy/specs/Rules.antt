-- What a policy holds.
use Rattle.std.specs.Prelude.{ℕ, Bool, List, [], Option, option_map, slice_get, unwrap_or, codes}
use Rattle.spdx_requirement.specs.Items.{Requirement}
use Rattle.spdx_requirement.specs.Rows.{Rows}
use Rattle.spdx_licensee.specs.Replacements.{KnownReplacement}
use Rattle.spdx_policy.specs.declared.decision.Flag.{Flag}
use Rattle.spdx_policy.specs.declared.decision.Flag.TheVariants as flag
use Rattle.spdx_policy.specs.declared.decision.Entry.{Entry}
use Rattle.spdx_policy.specs.declared.decision.Entry.TheVariants as entry
use Rattle.spdx_policy.specs.Scopes.{ScopeRow}

-- an entry of a list: its text, and what the requirement means that it names
pub record NamedRow : Type 0 where
  pub text : List ℕ
  pub sense : Requirement

-- The lists in the order of the file. `exempted` has the packages of the exceptions, `exempting`
-- what each of them allows and `reasons` why; `clarified` has the packages of the clarifications,
-- and `expressions` what each of them says. `list` is the list of licences that the file was read
-- by, and `replacements` what stands in the place of its deprecated names.
pub record Rules : Type 0 where
  pub list : Rows
  pub replacements : List KnownReplacement
  pub lax : Bool
  pub unstated : Bool
  pub allow : List NamedRow
  pub allow_if : List Flag
  pub deny : List NamedRow
  pub deny_if : List Flag
  pub exempted : List ScopeRow
  pub exempting : List (List NamedRow)
  pub reasons : List (Option (List ℕ))
  pub clarified : List ScopeRow
  pub expressions : List (List ℕ)

-- the word of a flag
abbrev pub flag_word : Flag → List ℕ
flag_word flag.OsiApproved = codes "osi-approved"
flag_word flag.FsfLibre = codes "fsf-libre"
flag_word flag.Copyleft = codes "copyleft"
flag_word flag.Deprecated = codes "deprecated"

-- what the exception of that number allows; none allows nothing
abbrev pub allowed_by : Rules → ℕ → List NamedRow
allowed_by p table = unwrap_or (slice_get p.exempting table) []

abbrev pub text_at : List NamedRow → ℕ → Option (List ℕ)
text_at names place = option_map (λ (n : NamedRow). n.text) (slice_get names place)

abbrev pub word_at : List Flag → ℕ → Option (List ℕ)
word_at flags place = option_map flag_word (slice_get flags place)

-- the text of an entry, as the file has it
abbrev pub entry_text : Rules → Entry → Option (List ℕ)
entry_text p (entry.Allow place) = text_at p.allow place
entry_text p (entry.AllowIf place) = word_at p.allow_if place
entry_text p (entry.Deny place) = text_at p.deny place
entry_text p (entry.DenyIf place) = word_at p.deny_if place
entry_text p (entry.Exception table place) = text_at (allowed_by p table) place
