-- What becomes of the expressions that a manifest declares, and of the manifest.
use Rattle.std.specs.Prelude.{◌≡◌, ◌≢◌, ◌⊎◌, ℕ, Bool, true, false, List, [], ◌∷◌, ◌++◌, Option, Some, None, map, All, Any}
use Rattle.std.specs.Global.{Vec}
use Rattle.std.specs.List.{list_any, AllZip}
use Rattle.std.specs.Str.{IsUtf8}
use Rattle.spdx_requirement.specs.Rows.{Rows}
use Rattle.spdx_lexer.specs.declared.token.ParseMode.{ParseMode}
use Rattle.spdx_lexer.specs.Modes.{strict}
use Rattle.spdx_canonical.specs.Fix.{Reads, IsFix, HasNoFix}
use Rattle.manifests.specs.declared.form.Form.{Form}
use Rattle.manifests.specs.declared.site.ManifestError.{ManifestError}
use Rattle.manifests.specs.declared.site.Site.{Site}
use Rattle.manifests.specs.Sites.{AreSites, IsError, Mends, Stays, reads_slash}
use Rattle.file_fixes.specs.declared.FixedManifest.{FixedManifest}

-- how expressions are read in manifests of the form: strictly, but for a `/` that means OR
abbrev pub mode_of : Form → ParseMode
mode_of form = record strict { allow_slash_as_or_operator = reads_slash form }

-- a reader of the form's manifests accepts the expression
abbrev pub IsRead : Rows → Form → List ℕ → Type 0
IsRead c form text = IsUtf8 text × Reads c (mode_of form) text

-- such a reader refuses the expression, but not its fix
pub record IsMendedBy (c : Rows) (form : Form) (text fix : List ℕ) : Type 0 where
  pub refused : IsRead c form text → ⊥
  pub is_fix : IsFix c text fix
  pub reads : IsRead c form fix

-- such a reader refuses the expression, which has no fix
pub record IsHopeless (c : Rows) (form : Form) (text : List ℕ) : Type 0 where
  pub refused : IsRead c form text → ⊥
  pub no_fix : IsUtf8 text → HasNoFix c text

-- what becomes of an expression: it reads as it is, nothing mends it, its fix can't be written
-- there, or its fix stands there
pub data Fate : Type 0 where
  readable : Fate
  hopeless : Fate
  stuck : List ℕ → Fate
  replaced : List ℕ → Fate

-- so the expression may end
abbrev pub HasFate : Rows → Form → List ℕ → Fate → Type 0
HasFate c form text readable = IsRead c form text
HasFate c form text hopeless = IsHopeless c form text
HasFate c form text (stuck fix) = IsMendedBy c form text fix
HasFate c form text (replaced fix) = IsMendedBy c form text fix

-- an expression that a manifest declares, and what becomes of it
pub record Change : Type 0 where
  pub site : Site
  pub fate : Fate

-- the expression before
abbrev pub old_text : Change → List ℕ
old_text change = change.site.text.items

abbrev pub text_after : List ℕ → Fate → List ℕ
text_after text (replaced fix) = fix
text_after text fate = text

-- the expression after: its fix, where that stands there, or as it was
abbrev pub new_text : Change → List ℕ
new_text change = text_after (old_text change) change.fate

abbrev pub is_fix_written : Fate → Bool
is_fix_written (replaced fix) = true
is_fix_written fate = false

abbrev pub is_fate_left : Fate → Bool
is_fate_left hopeless = true
is_fate_left (stuck fix) = true
is_fate_left fate = false

-- its fix stands there
abbrev pub is_replaced : Change → Bool
is_replaced change = is_fix_written change.fate

-- it is refused, and stands there as it was
abbrev pub is_left : Change → Bool
is_left change = is_fate_left change.fate

-- the bytes, with the fix in the place of the expression of that number
abbrev pub Step : Form → List ℕ → ℕ → Fate → List ℕ → Type 0
Step form before number (replaced fix) after = Mends form before number fix after
Step form before number (stuck fix) after = Stays form before number fix × (after ≡ before)
Step form before number fate after = after ≡ before

-- the bytes that come of these by one change behind the other
pub data Steps (form : Form) (old : List ℕ) : List Change → List ℕ → Type 0 where
  begin : Steps form old [] old
  next : {changes : List Change} {before after : List ℕ} (change : Change) →
      Steps form old changes before → Step form before change.site.number change.fate after →
      Steps form old (changes ++ change ∷ []) after

-- what becomes of these expressions, and the bytes that come of it
pub record Goes (c : Rows) (form : Form) (old : List ℕ) (changes : List Change)
    (new : List ℕ) : Type 0 where
  pub fates : All (λ change. HasFate c form (old_text change) change.fate) changes
  pub steps : Steps form old changes new

abbrev pub sites_of : List Change → List Site
sites_of changes = map (λ (change : Change). change.site) changes

-- so it is of all that the manifest declares
pub record GoesThrough (c : Rows) (form : Form) (old : List ℕ) (changes : List Change)
    (new : List ℕ) : Type 0 where
  pub declared : AreSites form old (sites_of changes)
  pub goes : Goes c form old changes new

abbrev pub texts_of : List Site → List (List ℕ)
texts_of sites = map (λ (site : Site). site.text.items) sites

-- the manifest declares these expressions
pub record Declares (form : Form) (bytes : List ℕ) (texts : List (List ℕ)) : Type 0 where
  pub sites : List Site
  pub declared : AreSites form bytes sites
  pub texts_are : texts_of sites ≡ texts

-- the manifest declares other expressions than these
pub record DeclaresOther (form : Form) (bytes : List ℕ) (texts : List (List ℕ)) : Type 0 where
  pub sites : List Site
  pub declared : AreSites form bytes sites
  pub texts_are_not : texts_of sites ≢ texts

-- some fixes are written, and read again the new bytes declare them, and every other expression as
-- it was
pub record IsMended (c : Rows) (form : Form) (old new : List ℕ) (left : Bool) : Type 0 where
  pub changes : List Change
  pub goes : GoesThrough c form old changes new
  pub some : list_any is_replaced changes ≡ true
  pub declares : Declares form new (map new_text changes)
  pub left_is : left ≡ list_any is_left changes

-- no fix is written, for none can be
pub record IsKept (c : Rows) (form : Form) (old : List ℕ) (left : Bool) : Type 0 where
  pub changes : List Change
  pub goes : GoesThrough c form old changes old
  pub none : list_any is_replaced changes ≡ false
  pub left_is : left ≡ list_any is_left changes

-- no fix is written, for with those that can be the bytes would declare something else
pub record IsGivenUp (c : Rows) (form : Form) (old : List ℕ) (left : Bool) : Type 0 where
  pub changes : List Change
  pub new : List ℕ
  pub goes : GoesThrough c form old changes new
  pub some : list_any is_replaced changes ≡ true
  pub other : DeclaresOther form new (map new_text changes)
  pub left_is : left ≡ true

-- what becomes of the manifest
abbrev pub IsFixed : Rows → Form → List ℕ → Option (Vec ℕ) → Bool → Type 0
IsFixed c form old (Some new) left = IsMended c form old new.items left
IsFixed c form old None left = IsKept c form old left ⊎ IsGivenUp c form old left

-- the error of the bytes that come of the first of the changes
pub record IsErrorAmid (c : Rows) (form : Form) (old : List ℕ)
    (error : ManifestError) : Type 0 where
  pub changes : List Change
  pub later : List Site
  pub declared : AreSites form old (sites_of changes ++ later)
  pub bytes : List ℕ
  pub goes : Goes c form old changes bytes
  pub is : IsError form bytes error

-- why nothing can be told: the error of the manifest, or of what comes of it
abbrev pub IsErrorOf : Rows → Form → List ℕ → ManifestError → Type 0
IsErrorOf c form old error = IsError form old error ⊎ IsErrorAmid c form old error

abbrev pub bytes_after : List ℕ → Option (Vec ℕ) → List ℕ
bytes_after old (Some new) = new.items
bytes_after old None = old

-- a reader of the form's manifests refuses the expression
abbrev pub IsRefused : Rows → Form → List ℕ → Type 0
IsRefused c form text = IsRead c form text → ⊥

-- what stands there now is what stood there, or its fix
abbrev pub IsTextAfter : Rows → Form → List ℕ → List ℕ → Type 0
IsTextAfter c form old new = (new ≡ old) ⊎ IsMendedBy c form old new

-- what is said of a manifest, and of what becomes of it
pub record FixLaws (c : Rows) (form : Form) (old : List ℕ) (fixed : FixedManifest) : Type 0 where
  pub sites : List Site
  pub declared : AreSites form old sites
  pub again : List Site
  pub declared_again : AreSites form (bytes_after old fixed.bytes) again
  -- each expression stays or is replaced by its fix, and one that reads stays
  pub each : AllZip (IsTextAfter c form) (texts_of sites) (texts_of again)
  -- where every declared expression reads, the manifest stays, and nothing is left
  pub needless : All (IsRead c form) (texts_of sites) →
      (fixed.bytes ≡ None) × (fixed.is_left ≡ false)
  -- where nothing is left, every expression reads that the manifest then declares
  pub whole : fixed.is_left ≡ false → All (IsRead c form) (texts_of again)
  -- where something is left, one of these is refused
  pub left : fixed.is_left ≡ true → Any (IsRefused c form) (texts_of again)
