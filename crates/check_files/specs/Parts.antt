-- What is found in the parts of a file.
use Rattle.std.specs.Prelude.{◌≡◌, ◌<◌, ◌^◌, ℕ, Bool, false, List, length, Option, Some, None}
use Rattle.std.specs.Str.{IsUtf8}
use Rattle.toml.specs.Data.{Members}
use Rattle.toml.specs.Parse.{parse_document}
use Rattle.line_engine.specs.declared.lines.Summary.{Summary}
use Rattle.manifests.specs.declared.form.Form.{Form}
use Rattle.manifests.specs.declared.form.Form.TheVariants as form
use Rattle.manifests.specs.declared.site.Site.{Site}
use Rattle.manifests.specs.OldTable.{has_license_table}
use Rattle.spdx_check.specs.declared.check.Check.{Check}
use Rattle.check_sources.specs.Findings.{ChecksWritten, Source}
use Rattle.check_sources.specs.Manifests.{ChecksManifest}
use Rattle.check_sources.specs.Tags.{tagged}
use Rattle.check_sources.specs.Counted.{written}
use Rattle.check_files.specs.Tally.{Tally, is_clean, with_found, with_table}

abbrev pub source_at : List ℕ → List ℕ → Source
source_at path bytes = record { path = path; bytes = bytes }

-- ---- manifests

-- whether the document has its license in a table; what is no TOML has none
pub record HasTable (bytes : List ℕ) (has : Bool) : Type 0 where
  pub by_document : (document : Members) → IsUtf8 bytes → parse_document bytes ≡ Some document →
      has ≡ has_license_table document
  pub without : (IsUtf8 bytes → parse_document bytes ≡ None) → has ≡ false

-- so a pyproject.toml had it before PEP 639
abbrev pub IsTable : Form → List ℕ → Bool → Type 0
IsTable form.Pyproject bytes is = HasTable bytes is
IsTable form bytes is = is ≡ false

abbrev pub NotesTable : Form → Source → Tally → Tally → Type 0
NotesTable form source old new =
    (is : Bool) × IsTable form source.bytes is × (new ≡ with_table is source.path old)

-- what is found in the expressions that a manifest declares at these sites is written, and counted;
-- without sites it is refused as a whole. The manifest fits into memory, so that its lines and
-- columns are numbers of 64 bits
pub record IsManifestChecked (check : Check) (form : Form) (source : Source) (old : Tally)
    (sites : Option (List Site)) (text : List ℕ) (count : ℕ) (new : Tally) : Type 0 where
  pub found : List ℕ
  pub summary : Summary
  pub finds : ChecksManifest check (is_clean old) form source sites found summary
  pub text_is : text ≡ written summary found
  pub count_is : count ≡ summary.lines
  pub counts : NotesTable form source (with_found summary old) new
  pub fits : length source.bytes < 2 ^ 63

-- ---- tags

-- what is found in the expressions behind the tags of a file is written, and counted; the file fits
-- into memory
pub record AreTagsChecked (check : Check) (source : Source) (old : Tally) (text : List ℕ)
    (count : ℕ) (new : Tally) : Type 0 where
  pub found : List ℕ
  pub summary : Summary
  pub finds : ChecksWritten check (is_clean old) source (tagged source) found summary
  pub text_is : text ≡ written summary found
  pub count_is : count ≡ summary.lines
  pub counts : new ≡ with_found summary old
  pub fits : length source.bytes < 2 ^ 63
