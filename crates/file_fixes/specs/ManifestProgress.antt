-- How far the mending of a manifest has come.
use Rattle.std.specs.Prelude.{◌≡◌, ℕ, ◌⊎◌, Bool, true, ◌||◌, List, [], ◌∷◌, ◌++◌, Option, Some, None, IsSomeAnd, is_some, map}
use Rattle.std.specs.Global.{Vec}
use Rattle.std.specs.List.{list_any}
use Rattle.spdx_requirement.specs.Rows.{Rows}
use Rattle.manifests.specs.declared.form.Form.{Form}
use Rattle.manifests.specs.declared.site.ManifestError.{ManifestError}
use Rattle.manifests.specs.declared.site.Site.{Site}
use Rattle.manifests.specs.Sites.{IsError}
use Rattle.file_fixes.specs.declared.FixedManifest.{FixedManifest}
use Rattle.file_fixes.specs.declared.manifest_mending.Mending.{Mending}
use Rattle.file_fixes.specs.ManifestFixing.{Fate, HasFate, Change, Step, Goes, text_after, new_text, is_fate_left, is_fix_written, is_left, is_replaced, sites_of, bytes_after, Declares, DeclaresOther}

-- the texts that a list holds
abbrev pub texts_in : List (Vec ℕ) → List (List ℕ)
texts_in texts = map (λ (text : Vec ℕ). text.items) texts

-- the mending, with one more expression behind the others that has this fate
pub record IsStepped (c : Rows) (form : Form) (old : List ℕ) (site : Site) (fate : Fate)
    (before after : Mending) : Type 0 where
  pub has : HasFate c form site.text.items fate
  pub step : Step form (bytes_after old before.bytes) site.number fate (bytes_after old after.bytes)
  pub texts : texts_in after.texts.items ≡ texts_in before.texts.items ++
      text_after site.text.items fate ∷ []
  pub left : after.is_left ≡ (before.is_left || is_fate_left fate)
  pub some : is_some after.bytes ≡ (is_some before.bytes || is_fix_written fate)

-- the mending of the first of these expressions, behind which the others are left to do
pub record IsSoFar (c : Rows) (form : Form) (old : List ℕ) (found later : List Site)
    (mending : Mending) : Type 0 where
  pub changes : List Change
  pub sites : sites_of changes ++ later ≡ found
  pub goes : Goes c form old changes (bytes_after old mending.bytes)
  pub texts : texts_in mending.texts.items ≡ map new_text changes
  pub left : mending.is_left ≡ list_any is_left changes
  pub some : is_some mending.bytes ≡ list_any is_replaced changes

-- the error of the bytes that come of the first of these expressions' changes
pub record IsErrorWithin (c : Rows) (form : Form) (old : List ℕ) (found : List Site)
    (error : ManifestError) : Type 0 where
  pub changes : List Change
  pub later : List Site
  pub sites : sites_of changes ++ later ≡ found
  pub bytes : List ℕ
  pub goes : Goes c form old changes bytes
  pub is : IsError form bytes error

-- the mending's bytes declare what they are to declare, or else nothing is replaced
abbrev pub IsSettledTo : Form → List (List ℕ) → Bool → Option (Vec ℕ) → FixedManifest → Type 0
IsSettledTo form texts left None fixed = (fixed.bytes ≡ None) × (fixed.is_left ≡ left)
IsSettledTo form texts left (Some new) fixed =
    ((fixed.bytes ≡ Some new) × (fixed.is_left ≡ left) × Declares form new.items texts)
    ⊎ ((fixed.bytes ≡ None) × (fixed.is_left ≡ true) × DeclaresOther form new.items texts)

-- what becomes of a manifest by its mending
abbrev pub IsSettled : Form → Mending → FixedManifest → Type 0
IsSettled form mending fixed =
    IsSettledTo form (texts_in mending.texts.items) mending.is_left mending.bytes fixed

-- the error of the bytes that come of it, for some do
abbrev pub IsErrorAfter : Form → Mending → ManifestError → Type 0
IsErrorAfter form mending error = IsSomeAnd mending.bytes (λ new. IsError form new.items error)
