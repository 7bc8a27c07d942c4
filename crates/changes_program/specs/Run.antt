-- A run of the command: what is read, what is told, and how it ends.
use Rattle.std.specs.Prelude.{◌≡◌, ◌≢◌, ℕ, Bool, true, false, List, [], ◌∷◌, Option, Some, None, ◌-◌, All, length, map, if◌then◌else◌}
use Rattle.std.specs.List.{count_by, list_any}
use Rattle.std.specs.Option.{option_copied}
use Rattle.shelves.specs.Shelf.{Shelved}
use Rattle.spdx_requirement.specs.Rows.{Rows}
use Rattle.list_program.specs.Named.{InsideBytes, IsNamedList}
use Rattle.list_program.specs.Troubles.{IsNoNamedList}
use Rattle.package_items.specs.declared.package.Package.{Package}
use Rattle.package_files.specs.declared.listed.Listed.{Listed}
use Rattle.package_files.specs.All.{AreListed}
use Rattle.package_files.specs.Listed.{IsListedAt}
use Rattle.spdx_policy.specs.Rules.{Rules}
use Rattle.gate_program.specs.declared.policy.PolicyTrouble.{PolicyTrouble}
use Rattle.gate_program.specs.declared.run.GateTrouble.{GateTrouble}
use Rattle.gate_program.specs.declared.run.GateTrouble.TheVariants as trouble
use Rattle.gate_program.specs.Policy.{IsNoPolicyAt, IsPolicyAt}
use Rattle.gate_program.specs.Run.{IsAllowed}
use Rattle.package_changes.specs.Rows.{ChangeRow, Row, came, stayed, went}
use Rattle.package_changes.specs.Pairing.{changes}
use Rattle.package_changes.specs.declared.forms.Format.{Format}
use Rattle.package_changes.specs.declared.tellings.How.{How}
use Rattle.package_changes.specs.declared.tellings.How.TheVariants as how
use Rattle.package_changes.specs.declared.tellings.Telling.{Telling}
use Rattle.package_changes.specs.Forms.{changes_text}
use Rattle.changes_program.specs.declared.run.Request.{Request}
use Rattle.changes_program.specs.declared.run.Run.{Run}
use Rattle.changes_program.specs.declared.run.ToldChanges.{ToldChanges}
use Rattle.changes_program.specs.declared.run.Totals.{Totals}
use Rattle.changes_program.specs.Packages.{row_in}
use Rattle.changes_program.specs.Said.{AreSaid, SaidRow}
use Rattle.changes_program.specs.Tellings.{AreTold, judged_if}

-- ---- what is counted

abbrev pub is_came : How → Bool
is_came how.Came = true
is_came _ = false

abbrev pub is_went : How → Bool
is_went how.Went = true
is_went _ = false

abbrev pub is_more : How → Bool
is_more how.More = true
is_more how.Other = true
is_more _ = false

abbrev pub has_come : Telling → Bool
has_come t = is_came t.how

abbrev pub has_gone : Telling → Bool
has_gone t = is_went t.how

-- the newer licence asks for something that the older one didn't
abbrev pub asks_for_more : Telling → Bool
asks_for_more t = is_more t.how

abbrev pub is_refused : Telling → Bool
is_refused t = t.is_refused

abbrev pub totals_of : ℕ → ℕ → List Telling → Totals
totals_of before after ts = record {
  before = before;
  now = after;
  came = count_by has_come ts;
  went = count_by has_gone ts;
  changed = (length ts - count_by has_come ts) - count_by has_gone ts;
  more = count_by asks_for_more ts;
  refused = count_by is_refused ts;
}

-- ---- what is told

-- the changes between the packages of both files, each told with the mark of the policy
pub record IsTold (c : Rows) (p : Option Rules) (format : Format) (older newer : List Package)
    (told : ToldChanges) : Type 0 where
  pub said : List SaidRow
  pub tellings : List Telling
  pub says : AreSaid c (changes (map row_in older) (map row_in newer)) said
  pub tells : AreTold c p said tellings
  pub text_is : told.text.items ≡ changes_text format tellings
  pub totals_are : told.totals ≡ totals_of (length older) (length newer) tellings
  pub refused_is : told.is_refused ≡ list_any is_refused tellings

-- of two files it is told; where one is left out, nothing is
abbrev pub IsToldOfBoth : Rows → Option Rules → Format → List Listed → Option ToldChanges → Type 0
IsToldOfBoth c p format (older ∷ newer ∷ []) None = ⊥
IsToldOfBoth c p format (older ∷ newer ∷ []) (Some told) =
    IsTold c p format older.packages.items newer.packages.items told
IsToldOfBoth c p format [] told = told ≡ None
IsToldOfBoth c p format (f ∷ []) told = told ≡ None
IsToldOfBoth c p format (f ∷ g ∷ h ∷ more) told = told ≡ None

-- ---- a run

-- over this list and policy
pub record IsRunOver (s : Shelved) (c : Rows) (p : Option Rules) (a : Request)
    (run : Run) : Type 0 where
  pub reads :
      AreListed s a.wanted (a.old.now ∷ a.new.now ∷ []) run.files.items run.left_out.items
  pub tells : IsToldOfBoth c p a.format run.files.items run.told

-- the policy at the path, where one is named
abbrev pub IsPolicyIf : Shelved → List ℕ → Rows → Option (List ℕ) → Option Rules → Type 0
IsPolicyIf s replacements c None p = p ≡ None
IsPolicyIf s replacements c (Some path) None = ⊥
IsPolicyIf s replacements c (Some path) (Some p) = IsPolicyAt s replacements c path p

abbrev pub IsNoPolicyIf : Shelved → List ℕ → Rows → Option (List ℕ) → PolicyTrouble → Type 0
IsNoPolicyIf s replacements c None t = ⊥
IsNoPolicyIf s replacements c (Some path) t = IsNoPolicyAt s replacements c path t

-- by the list that is named, or else is inside
pub record IsRun (s : Shelved) (inside : InsideBytes) (replacements : List ℕ) (a : Request)
    (run : Run) : Type 0 where
  pub catalogue : Rows
  pub policy : Option Rules
  pub list_is : IsNamedList s inside (option_copied a.list) catalogue
  pub policy_is : IsPolicyIf s replacements catalogue (option_copied a.policy) policy
  pub runs : IsRunOver s catalogue policy a run

-- why there is none; nothing is said of memory
abbrev pub IsNoRun : Shelved → InsideBytes → List ℕ → Request → GateTrouble → Type 0
IsNoRun s inside replacements a (trouble.List t) = IsNoNamedList s inside (option_copied a.list) t
IsNoRun s inside replacements a (trouble.Policy t) =
    (c : Rows) × IsNamedList s inside (option_copied a.list) c ×
    IsNoPolicyIf s replacements c (option_copied a.policy) t
IsNoRun s inside replacements a trouble.Memory = Unit {0}

-- ---- its status

abbrev pub status_by : Option ToldChanges → ℕ
status_by None = 2
status_by (Some told) = if told.is_refused then 1 else 0

abbrev pub status_of : Run → ℕ
status_of run = status_by run.told

-- ---- laws

-- the package came or its licence changed, and this is how the newer file has it
abbrev pub IsNew : ChangeRow → Row → Type 0
IsNew (came r) new = r ≡ new
IsNew (went r) new = ⊥
IsNew (stayed old r) new = (r ≡ new) × (old.license ≢ r.license)

-- by the policy's own definition each such package passes
abbrev pub DoNewOnesPass : Rows → Rules → List Package → List Package → Type 0
DoNewOnesPass c p older newer =
    All (λ x. (new : Row) → IsNew x new → IsAllowed c p (judged_if (Some new)))
    (changes (map row_in older) (map row_in newer))

-- each such package of the files at both paths, by the list and the policy that are read
pub record NewOnesPass (s : Shelved) (inside : InsideBytes) (replacements : List ℕ) (a : Request)
    (path : List ℕ) : Type 0 where
  pub catalogue : Rows
  pub policy : Rules
  pub older : Listed
  pub newer : Listed
  pub list_is : IsNamedList s inside (option_copied a.list) catalogue
  pub policy_is : IsPolicyAt s replacements catalogue path policy
  pub older_is : IsListedAt s a.wanted a.old.now older
  pub newer_is : IsListedAt s a.wanted a.new.now newer
  pub pass : DoNewOnesPass catalogue policy older.packages.items newer.packages.items
