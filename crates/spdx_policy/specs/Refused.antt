-- Why a text is no policy.
use Rattle.std.specs.Prelude.{◌≡◌, ◌⊎◌, ℕ, List, [], take, Some, None, Ok, Err, IsUtf8}
use Rattle.toml.specs.Data.{Members}
use Rattle.toml.specs.Parse.{parse_document}
use Rattle.toml.specs.Errors.{IsWithin, span_start}
use Rattle.spdx_requirement.specs.Rows.{Rows}
use Rattle.spdx_policy.specs.declared.error.Key.TheVariants as key
use Rattle.spdx_policy.specs.declared.error.Section.TheVariants as section
use Rattle.spdx_policy.specs.declared.fault.Unreadable.{Unreadable}
use Rattle.spdx_policy.specs.declared.fault.PolicyFault.{PolicyFault}
use Rattle.spdx_policy.specs.declared.fault.PolicyFault.TheVariants as fault
use Rattle.spdx_policy.specs.Shape.{shape_of}
use Rattle.spdx_policy.specs.Lines.{line_behind, column_behind}
use Rattle.spdx_policy.specs.Drafts.{DraftRows, draft_of}
use Rattle.spdx_policy.specs.declared.error.Place.{Place}
use Rattle.spdx_policy.specs.Meant.{HasOne, AtEach, IsEntry, IsExempted, unknown_flag}
use Rattle.spdx_policy.specs.Blame.{BlamesNames, BlamesExempted, AreEntries, BlamesExempting, BlamesClarified}

-- the text is no TOML, where the error begins, in lines and characters from 1
pub record IsUnreadable (text : List ℕ) (u : Unreadable) : Type 0 where
  pub within : IsWithin text u.error
  pub line : u.line ≡ line_behind (take (span_start u.error) text)
  pub column : u.column ≡ column_behind (take (span_start u.error) text)
  pub none : IsUtf8 text → parse_document text ≡ None

-- the fault is told as one of reading
abbrev pub RefusesRead : List ℕ → PolicyFault → Type 0
RefusesRead text (fault.Unreadable u) = IsUnreadable text u
RefusesRead text f = ⊥

-- the fault is the first of the table's shape
abbrev pub RefusesShape : Members → PolicyFault → Type 0
RefusesShape ms (fault.Shape s) = draft_of ms ≡ Err (shape_of s)
RefusesShape ms f = ⊥

-- The names of two lists are entries, and the list of licences says something of each flag.
pub record AreRead (c : Rows) (d : DraftRows) (allow deny : List (List ℕ)) : Type 0 where
  pub flags : unknown_flag c d ≡ None
  pub allowed : AtEach (HasOne (IsEntry c)) allow
  pub denied : AtEach (HasOne (IsEntry c)) deny

-- The first fault of a draft: a flag of which the list says nothing, then a name of `allow`, of
-- `deny`, a range of an exception, a name of one, a range of a clarification.
pub data IsRefusedDraft (c : Rows) (d : DraftRows) : PolicyFault → Type 0 where
  by_list : (p : Place) → unknown_flag c d ≡ Some p → IsRefusedDraft c d (fault.UnknownFlag p)
  in_allow : {f : PolicyFault} → AreRead c d [] [] →
      BlamesNames c section.Policy key.Allow d.allow f
      → IsRefusedDraft c d f
  in_deny : {f : PolicyFault} → AreRead c d d.allow [] →
      BlamesNames c section.Policy key.Deny d.deny f
      → IsRefusedDraft c d f
  in_ranges : {f : PolicyFault} → AreRead c d d.allow d.deny → BlamesExempted d.exceptions f →
      IsRefusedDraft c d f
  in_exceptions : {f : PolicyFault} → AreRead c d d.allow d.deny →
      AtEach (HasOne IsExempted) d.exceptions
      → BlamesExempting c d.exceptions f → IsRefusedDraft c d f
  in_clarifications : {f : PolicyFault} → AreRead c d d.allow d.deny →
      AtEach (HasOne IsExempted) d.exceptions
      → AtEach (AreEntries c) d.exceptions → BlamesClarified d.clarifications f →
      IsRefusedDraft c d f

-- a draft that the text says has a fault
pub record HasFault (c : Rows) (text : List ℕ) (f : PolicyFault) : Type 0 where
  pub utf8 : IsUtf8 text
  pub members : Members
  pub document : parse_document text ≡ Some members
  pub draft : DraftRows
  pub shape : draft_of members ≡ Ok draft
  pub refused : IsRefusedDraft c draft f

-- the table that the text is has a fault
pub record HasShapeFault (text : List ℕ) (f : PolicyFault) : Type 0 where
  pub utf8 : IsUtf8 text
  pub members : Members
  pub document : parse_document text ≡ Some members
  pub shape : RefusesShape members f

-- the text is no UTF-8 or no TOML, or its table has another shape, or a name or a range in it is
-- none
abbrev pub IsRefusedText : Rows → List ℕ → PolicyFault → Type 0
IsRefusedText c text f = RefusesRead text f ⊎ (HasShapeFault text f ⊎ HasFault c text f)
