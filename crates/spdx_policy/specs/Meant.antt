-- Which policy a TOML text means, by a list of licences.
use Rattle.std.specs.Prelude.{◌≡◌, ℕ, ◌<◌, Bool, true, false, List, [], ◌∷◌, Option, Some, None, option_map, Ok, IsUtf8, map, slice_get, if◌then◌else◌}
use Rattle.std.specs.List.{position, list_any}
use Rattle.toml.specs.Data.{Members}
use Rattle.toml.specs.Parse.{parse_document}
use Rattle.semver.specs.Parse.{Held, req_of}
use Rattle.spdx_requirement.specs.Rows.{Rows, LicenseRow}
use Rattle.spdx_requirement.specs.Flags.{is_copyleft}
use Rattle.spdx_requirement.specs.Items.{LicenseTerm, listed, referred, Requirement}
use Rattle.spdx_lexer.specs.declared.token.ParseMode.{ParseMode}
use Rattle.spdx_lexer.specs.Modes.{strict}
use Rattle.spdx_lexer.specs.Reading.{reading}
use Rattle.spdx_lexer.specs.Words.{Placed, words}
use Rattle.spdx_parser.specs.Tree.{Leaf}
use Rattle.spdx_parser.specs.Grammar.{IsTheTree}
use Rattle.spdx_licensee.specs.LicenseeText.{Names, NamesNone}
use Rattle.spdx_licensee.specs.Replacements.{KnownReplacement}
use Rattle.spdx_licensee.specs.Sense.{sense}
use Rattle.spdx_policy.specs.declared.decision.Flag.{Flag}
use Rattle.spdx_policy.specs.declared.decision.Flag.TheVariants as flag
use Rattle.spdx_policy.specs.declared.error.Key.TheVariants as key
use Rattle.spdx_policy.specs.declared.error.Section.TheVariants as section
use Rattle.spdx_policy.specs.declared.error.Place.{Place}
use Rattle.spdx_policy.specs.Decisions.{or_else}
use Rattle.spdx_policy.specs.Shape.{one}
use Rattle.spdx_policy.specs.Scopes.{ScopeRow}
use Rattle.spdx_policy.specs.Rules.{NamedRow, Rules}
use Rattle.spdx_policy.specs.Drafts.{ExceptionRow, ClarifyRow, DraftRows, draft_of}

-- the lists are equally long, and the relation holds at each place
abbrev pub Each : {A B : Type 0} → (A → B → Type 0) → List A → List B → Type 0
Each R [] [] = Unit {0}
Each R (x ∷ xs) (y ∷ ys) = R x y × Each R xs ys
Each R [] (y ∷ ys) = ⊥
Each R (x ∷ xs) [] = ⊥

-- something is related to it
abbrev pub HasOne : {A B : Type 0} → (A → B → Type 0) → A → Type 0
HasOne {A} {B} R x = (y : B) × R x y

-- it holds of each element, and of each before a place
abbrev pub AtEach : {A : Type 0} → (A → Type 0) → List A → Type 0
AtEach {A} P xs = (k : ℕ) (x : A) → slice_get xs k ≡ Some x → P x

abbrev pub AtEachBefore : {A : Type 0} → (A → Type 0) → List A → ℕ → Type 0
AtEachBefore {A} P xs place = (k : ℕ) (x : A) → k < place → slice_get xs k ≡ Some x → P x

-- the strict form, in which deprecated names may stand
abbrev pub entry_mode : ParseMode
entry_mode = record strict { allow_deprecated = true }

abbrev pub is_marked : LicenseTerm → Bool
is_marked (listed r mark) = mark
is_marked (referred r) = false

-- the text is an expression of one requirement without a `+`, deprecated names let pass
pub record IsOldEntry (c : Rows) (text : List ℕ) (r : Requirement) : Type 0 where
  pub read : List Placed
  pub reads : reading c entry_mode 0 text ≡ map Ok read
  pub means : IsTheTree c entry_mode (words read) (Leaf r)
  pub unmarked : is_marked r.license ≡ false

-- the requirement that the text of an entry names: a licensee, or where it names none, one under a
-- deprecated name
pub data IsEntry (c : Rows) (text : List ℕ) (r : Requirement) : Type 0 where
  licensee : Names c text r → IsEntry c text r
  old : NamesNone c text → IsOldEntry c text r → IsEntry c text r

-- an entry has the text, and what the requirement means that it names
pub record IsNamed (c : Rows) (hs : List KnownReplacement) (text : List ℕ)
    (n : NamedRow) : Type 0 where
  pub text_is : n.text ≡ text
  pub requirement : Requirement
  pub entry : IsEntry c text requirement
  pub sense_is : n.sense ≡ sense c hs requirement

-- a range is that of its text; none stands for none
abbrev pub IsRange : Option (List ℕ) → Option (List Held) → Type 0
IsRange None None = Unit {0}
IsRange (Some text) (Some range) = req_of text ≡ Ok range
IsRange None (Some range) = ⊥
IsRange (Some text) None = ⊥

abbrev pub IsExempted : ExceptionRow → ScopeRow → Type 0
IsExempted e s = (s.name ≡ e.name) × IsRange e.versions s.versions

abbrev pub IsExempting : Rows → List KnownReplacement → ExceptionRow → List NamedRow → Type 0
IsExempting c hs e names = Each (IsNamed c hs) e.allow names

abbrev pub IsClarified : ClarifyRow → ScopeRow → Type 0
IsClarified e s = (s.name ≡ e.name) × IsRange e.versions s.versions

abbrev pub reason : ExceptionRow → Option (List ℕ)
reason e = e.reason

abbrev pub expression : ClarifyRow → List ℕ
expression e = e.expression

abbrev pub is_copyleft_flag : Flag → Bool
is_copyleft_flag flag.Copyleft = true
is_copyleft_flag f = false

-- where a draft has the flag `copyleft` first
abbrev pub copyleft_place : DraftRows → Option Place
copyleft_place d =
    or_else (option_map (one section.Policy key.AllowIf) (position is_copyleft_flag d.allow_if))
    (option_map (one section.Policy key.DenyIf) (position is_copyleft_flag d.deny_if))

-- the list says of some licence that it is copyleft
abbrev pub knows_copyleft : Rows → Bool
knows_copyleft c = list_any (λ (r : LicenseRow). is_copyleft r.flags) c.licenses

-- where a draft has a flag of which the list says nothing
abbrev pub unknown_flag : Rows → DraftRows → Option Place
unknown_flag c d = if knows_copyleft c then None else copyleft_place d

-- the policy that a draft means
pub record IsMeant (c : Rows) (hs : List KnownReplacement) (d : DraftRows)
    (p : Rules) : Type 0 where
  pub list : p.list ≡ c
  pub replacements : p.replacements ≡ hs
  pub flags_known : unknown_flag c d ≡ None
  pub lax : p.lax ≡ d.lax
  pub unstated : p.unstated ≡ d.unstated
  pub allow : Each (IsNamed c hs) d.allow p.allow
  pub allow_if : p.allow_if ≡ d.allow_if
  pub deny : Each (IsNamed c hs) d.deny p.deny
  pub deny_if : p.deny_if ≡ d.deny_if
  pub exempted : Each IsExempted d.exceptions p.exempted
  pub exempting : Each (IsExempting c hs) d.exceptions p.exempting
  pub reasons : p.reasons ≡ map reason d.exceptions
  pub clarified : Each IsClarified d.clarifications p.clarified
  pub expressions : p.expressions ≡ map expression d.clarifications

-- the policy that a text means
pub record IsPolicyOf (c : Rows) (hs : List KnownReplacement) (text : List ℕ)
    (p : Rules) : Type 0 where
  pub utf8 : IsUtf8 text
  pub members : Members
  pub document : parse_document text ≡ Some members
  pub draft : DraftRows
  pub shape : draft_of members ≡ Ok draft
  pub meant : IsMeant c hs draft p
