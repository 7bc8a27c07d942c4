-- What is noted of the files below a folder, for its end.
use Rattle.std.specs.Prelude.{◌≡◌, ℕ, Bool, true, false, List, [], ◌∷◌, ◌++◌, Option, Some, None, codes, map, String, string_bytes, if◌then◌else◌}
use Rattle.std.specs.declared.alloc.Global.{Global}
use Rattle.std.specs.declared.io.Error.{Error}
use Rattle.license_tags.specs.declared.Tag.{Tag}
use Rattle.license_tags.specs.Comments.{comment_of}
use Rattle.license_tags.specs.Tags.{tags_of}
use Rattle.manifests.specs.declared.form.Form.{Form}
use Rattle.manifests.specs.declared.site.Site.{Site}
use Rattle.shelves.specs.Shelf.{Shelved, to_look}
use Rattle.shelves.specs.declared.shelf.Kind.{Kind}
use Rattle.spdx_lexer.specs.declared.token.ParseMode.{ParseMode}
use Rattle.spdx_requirement.specs.Rows.{Rows}
use Rattle.spdx_check.specs.declared.check.Check.{Check}
use Rattle.check_sources.specs.Findings.{Source}
use Rattle.check_sources.specs.Manifests.{mode_in}
use Rattle.check_sources.specs.Tags.{is_binary}
use Rattle.check_sources.specs.Written.{slice_in}
use Rattle.check_sources.specs.Needs.{AreNeeded}
use Rattle.check_sources.specs.Untagged.{is_text, needs_none}
use Rattle.check_files.specs.declared.noted.Noted.{Noted}

-- the license texts that expressions need, the files without a license, and what runs that were
-- killed left
pub record Notes : Type 0 where
  pub used : List (List ℕ)
  pub untagged : List (List ℕ)
  pub left_behind : List (String Global)

abbrev pub notes_of : Noted → Notes
notes_of n = record {
  used = map string_bytes n.used.items;
  untagged = map string_bytes n.untagged.items;
  left_behind = n.left_behind.items;
}

abbrev pub nothing_noted : Notes
nothing_noted = record { used = []; untagged = []; left_behind = [] }

abbrev pub IsNoneNoted : Notes → Type 0
IsNoneNoted n = n ≡ nothing_noted

-- ---- license texts

-- names are added of which this holds
abbrev pub Grows : List (List ℕ) → List (List ℕ) → (List (List ℕ) → Type 0) → Type 0
Grows old new Are = (names : List (List ℕ)) × (new ≡ old ++ names) × Are names

-- what these expressions need, one after the other
pub data AreAllNeeded (c : Rows) (m : ParseMode) : List (List ℕ) → List (List ℕ) → Type 0 where
  none : AreAllNeeded c m [] []
  more : {texts names : List (List ℕ)} (text : List ℕ) (own : List (List ℕ)) →
      AreAllNeeded c m texts names → AreNeeded c m text own →
      AreAllNeeded c m (texts ++ text ∷ []) (names ++ own)

abbrev pub AddsOne : Rows → ParseMode → List ℕ → List (List ℕ) → List (List ℕ) → Type 0
AddsOne c m text old new = Grows old new (AreNeeded c m text)

abbrev pub AddsNeeded :
    Rows → ParseMode → List (List ℕ) → List (List ℕ) → List (List ℕ) → Type 0
AddsNeeded c m texts old new = Grows old new (AreAllNeeded c m texts)

abbrev pub site_text : Site → List ℕ
site_text site = site.text.items

-- what the expressions at these sites of a manifest need; a file that is refused as a whole needs
-- nothing
abbrev pub NeedsDeclared :
    Rows → ParseMode → Form → Option (List Site) → List (List ℕ) → Type 0
NeedsDeclared c m form (Some sites) names =
    AreAllNeeded c (mode_in form m) (map site_text sites) names
NeedsDeclared c m form None names = names ≡ []

-- it is noted where there is a folder of license texts
abbrev pub IsUseOfManifest :
    Check → Option (List ℕ) → Form → Option (List Site) → List (List ℕ) → Type 0
IsUseOfManifest check None form sites names = names ≡ []
IsUseOfManifest check (Some folder) form sites names =
    NeedsDeclared check.catalogue.now check.mode form sites names

abbrev pub tag_text : List ℕ → Tag → List ℕ
tag_text bytes tag = slice_in bytes tag.start tag.end

-- the expressions behind the tags of a file; what is no text has none
abbrev pub tag_texts : Source → List (List ℕ)
tag_texts source =
    if is_binary source.bytes then []
    else map (tag_text source.bytes) (tags_of (comment_of source.path) source.bytes)

-- what they need is noted, where the file is no license text itself
abbrev pub IsUseBy : Bool → Check → Source → List (List ℕ) → Type 0
IsUseBy true check source names = names ≡ []
IsUseBy false check source names =
    AreAllNeeded check.catalogue.now check.mode (tag_texts source) names

abbrev pub IsUseOfTags : Check → Option (List ℕ) → Source → List (List ℕ) → Type 0
IsUseOfTags check None source names = names ≡ []
IsUseOfTags check (Some folder) source names =
    IsUseBy (is_text (Some folder) source.path) check source names

-- ---- files without a license

-- nothing can be looked at there
abbrev pub IsNothingAt : Shelved → List ℕ → Bool → Type 0
IsNothingAt s path true = (e : Error) × s.Fails to_look path e
IsNothingAt s path false = (k : Kind) × s.IsOf path k

-- a file that has to tell a license has none, and none beside it tells one
abbrev pub IsBareBy : Bool → Shelved → List ℕ → Bool → Type 0
IsBareBy true s path is = is ≡ false
IsBareBy false s path is = IsNothingAt s (path ++ codes ".license") is

abbrev pub IsBare : Shelved → Option (List ℕ) → List ℕ → List ℕ → Bool → Type 0
IsBare s folder path bytes is = IsBareBy (needs_none folder path bytes) s path is

abbrev pub with_bare : Bool → List ℕ → List (List ℕ) → List (List ℕ)
with_bare true path paths = paths ++ path ∷ []
with_bare false path paths = paths

abbrev pub NotesBare :
    Shelved → Option (List ℕ) → List ℕ → List ℕ → List (List ℕ) → List (List ℕ) → Type 0
NotesBare s folder path bytes old new =
    (is : Bool) × IsBare s folder path bytes is × (new ≡ with_bare is path old)
