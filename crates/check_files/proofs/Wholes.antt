-- What is found in a file, part by part.
use Rattle.std.proofs.Common.{◌≡◌, ◌∙◌, refl, sym, ap, inl, ℕ, ◌<◌, ◌^◌, Bool, true, List, [], ◌++◌, length, ◌==◌, ◌&&◌, Option, Some, subst}
use Rattle.std.specs.Io.KnownBytes.{Appends}
use Rattle.std.proofs.KnownBytes.{Appends-trans}
use Rattle.line_engine.specs.Device.{Told}
use Rattle.line_engine.specs.declared.lines.Summary.{Summary}
use Rattle.manifests.specs.declared.form.Form.{Form}
use Rattle.manifests.specs.declared.site.Site.{Site}
use Rattle.shelves.specs.Shelf.{Shelved}
use Rattle.source_trees.specs.Readings.{form_below}
use Rattle.source_trees.specs.declared.reading.Taken.{Taken}
use Rattle.spdx_check.specs.declared.check.Check.{Check}
use Rattle.check_sources.specs.Findings.{Source}
use Rattle.check_sources.specs.Manifests.{ChecksManifest}
use Rattle.check_sources.specs.Counted.{IsCounted}
use Rattle.check_sources.specs.Decoding.{without_mark}
use Rattle.check_sources.specs.declared.sums.Sums.{Sums}
use Rattle.check_files.specs.declared.trouble.CheckTrouble.{CheckTrouble}
use Rattle.check_files.specs.Files.{DeclaresPart, IsFileChecked, IsFileStep, IsStepBy, NotesFile, TagsPart, has_both, is_wanted}
use Rattle.check_files.specs.Noted.{Grows, IsUseOfManifest, Notes}
use Rattle.check_files.specs.Parts.{IsManifestChecked, NotesTable, source_at}
use Rattle.check_files.specs.Tally.{Tally, is_clean, once, tally_of, with_found}
use Rattle.check_files.specs.Told.{Account, Does, Writes}
use Rattle.check_files.proofs.Doing.{written_alone}

pub tallied : (old new : Sums) (s : Summary) (found text : List ℕ) → IsCounted old new s found text → tally_of new ≡ with_found s (tally_of old)
tallied old new s found text h = rw (h.totals, h.left_out, h.tables, h.texts, h.bare, h.untagged)

pub declared_written : (out out' : Told) (check : Check) (form : Form) (source : Source) (old mid : Sums) (new : Tally) (first : Bool) (sites : Option (List Site)) (found text : List ℕ) (summary : Summary)
    → first ≡ is_clean (tally_of old) → ChecksManifest check first form source sites found summary → IsCounted old mid summary found text
    → Appends out.bytes out'.bytes text → NotesTable form source (tally_of mid) new → length source.bytes < 2 ^ 63
    → Writes out out' (λ t. IsManifestChecked check form source (tally_of old) sites t summary.lines new)
declared_written out out' check form source old mid new first sites found text summary clean finds counts writes notes fits = (
  text,
  writes,
  record {
    found = found;
    summary = summary;
    finds = subst (λ (b : Bool). ChecksManifest check b form source sites found summary) clean finds;
    text_is = counts.text_is;
    count_is = refl;
    counts = subst (λ (t : Tally). NotesTable form source t new) (tallied old mid summary found text counts) notes;
    fits = fits;
  },
)

-- what is noted is of the sites that were checked
pub manifest_noted : (out out' : Told) (check : Check) (folder : Option (List ℕ)) (o : Option Form) (form : Form) (path bytes marked : List ℕ) (old new : Tally) (used used' : List (List ℕ))
    (sites : Option (List Site)) (count : ℕ) → o ≡ Some form → marked ≡ without_mark bytes
    → Writes out out' (λ t. IsManifestChecked check form (source_at path marked) old sites t count new) → Grows used used' (IsUseOfManifest check folder form sites)
    → Writes out out' (λ t. DeclaresPart check folder o path bytes old used t count new used')
manifest_noted out out' check folder o form path bytes marked old new used used' sites count is without w notes =
    subst (λ (f : Option Form). Writes out out' (λ t. DeclaresPart check folder f path bytes old used t count new used')) (sym is) (
      w.0,
      w.1,
      record {
        sites = sites;
        checks = subst (λ (bs : List ℕ). IsManifestChecked check form (source_at path bs) old sites w.0 count new) without w.2;
        notes = notes;
      },
    )

pub file_written : (s : Shelved) (check : Check) (t : Taken) (folder : Option (List ℕ)) (path bytes : List ℕ) (old between behind new : Tally) (noted noted' : Notes)
    (used : List (List ℕ)) (out mid out' : Told) (form : Option Form) (declared tagged : ℕ) (both is : Bool)
    → form ≡ form_below t path
    → Writes out mid (λ x. DeclaresPart check folder form path bytes old noted.used x declared between used)
    → Writes mid out' (λ x. TagsPart check folder t.tags path bytes between used x tagged behind noted'.used)
    → both ≡ has_both declared tagged → new ≡ once both behind
    → is ≡ ((declared == 0) && (tagged == 0)) → NotesFile is s folder path bytes noted.untagged noted'.untagged
    → noted'.left_behind ≡ noted.left_behind
    → Writes out out' (λ x. IsFileChecked s check t folder path bytes old noted x new noted')
file_written s check t folder path bytes old between behind new noted noted' used out mid out' form declared tagged both is form_is p q are_both counts is_without notes left = (
  p.0 ++ q.0,
  Appends-trans out.bytes mid.bytes out'.bytes p.0 q.0 p.1 q.1,
  record {
    declared = p.0;
    declared_count = declared;
    between = between;
    used = used;
    tagged = q.0;
    tagged_count = tagged;
    behind = behind;
    declares = subst (λ (f : Option Form). DeclaresPart check folder f path bytes old noted.used p.0 declared between used) form_is p.2;
    tags = q.2;
    counts = counts ∙ ap (λ (b : Bool). once b behind) are_both;
    text_is = refl;
    untagged = subst (λ (b : Bool). NotesFile b s folder path bytes noted.untagged noted'.untagged) is_without notes;
    left_behind = left;
  },
)

pub file_done : (out out' : Told) (heard : Account CheckTrouble) (s : Shelved) (check : Check) (t : Taken) (folder : Option (List ℕ)) (path bytes : List ℕ)
    (old new : Tally) (noted noted' : Notes) → is_wanted t path ≡ true → s.Holds path bytes
    → Writes out out' (λ text. IsFileChecked s check t folder path bytes old noted text new noted')
    → Does out out' heard heard (λ text told. IsFileStep s check t folder path old noted text told new noted')
file_done out out' heard s check t folder path bytes old new noted noted' wanted holds h =
    written_alone out out' heard (λ text. IsFileChecked s check t folder path bytes old noted text new noted')
    (λ text told. IsFileStep s check t folder path old noted text told new noted') h
    (λ text is. subst (λ (b : Bool). IsStepBy b s check t folder path old noted text [] new noted') (sym wanted) (inl (bytes, holds, is, refl)))
