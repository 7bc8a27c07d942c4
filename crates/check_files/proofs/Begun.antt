-- Where a check of a file breaks off.
use Rattle.std.proofs.Common.{◌≡◌, refl, sym, inl, inr, subst, ℕ, Bool, true, false, List, [], ◌++◌, Option, Some, Result, Ok, Err, OnErr, append-nil}
use Rattle.std.proofs.KnownBytes.{Appends-nil, Appends-trans}
use Rattle.line_engine.specs.Device.{Told}
use Rattle.line_engine.specs.Progress.{AppendsBeginning}
use Rattle.line_engine.specs.declared.lines.Summary.{Summary}
use Rattle.manifests.specs.declared.form.Form.{Form}
use Rattle.manifests.specs.declared.site.Site.{Site}
use Rattle.shelves.specs.Shelf.{Shelved}
use Rattle.source_trees.specs.Readings.{form_below}
use Rattle.source_trees.specs.declared.reading.Taken.{Taken}
use Rattle.spdx_check.specs.declared.check.Check.{Check}
use Rattle.check_sources.specs.Findings.{ChecksWritten, Source}
use Rattle.check_sources.specs.Manifests.{ChecksManifest}
use Rattle.check_sources.specs.Tags.{tagged}
use Rattle.check_sources.specs.Counted.{written}
use Rattle.check_sources.specs.Decoding.{source_bytes, without_mark}
use Rattle.check_files.specs.Begun.{IsBeginning, IsDeclaredText, IsFileBegun, IsManifestText, IsTagText, IsTaggedText, IsTextBegun, in_declared, in_tags}
use Rattle.check_files.specs.declared.trouble.CheckTrouble.{CheckTrouble}
use Rattle.check_files.specs.Files.{DeclaresPart, TagsPart}
use Rattle.check_files.specs.Noted.{Notes}
use Rattle.check_files.specs.Parts.{AreTagsChecked, IsManifestChecked, source_at}
use Rattle.check_files.specs.Tally.{Tally, is_clean}
use Rattle.check_files.specs.Told.{Account, Does, Hears, Writes}
use Rattle.check_files.proofs.Doing.{heard_alone, hears_nil, written_alone}

pub on_err : {A E : Type 0} (r : Result A E) (P Q : Type 0) → (P → Q) → OnErr r P → OnErr r Q
on_err (Ok x) P Q f h = h
on_err (Err e) P Q f h = f h

-- ---- a text

-- it isn't had
pub no_text : (a : Told) (Is : List ℕ → Type 0) → Writes a a (IsBeginning Is)
no_text a Is = ([], Appends-nil a.bytes, inl refl)

-- a beginning of it is written
pub part_of_text : (a b : Told) (Is : List ℕ → Type 0) (text : List ℕ) → Is text → AppendsBeginning a.bytes b.bytes text → Writes a b (IsBeginning Is)
part_of_text a b Is text is p = (p.begun, p.appended, inr (p.others, subst Is p.whole is))

-- all of it is
pub all_of_text : (a b : Told) (Was Is : List ℕ → Type 0) → Writes a b Was → ((text : List ℕ) → Was text → Is text) → Writes a b (IsBeginning Is)
all_of_text a b Was Is w so = (w.0, w.1, inr ([], subst Is (sym (append-nil w.0)) (so w.0 w.2)))

-- more is known of it
part_known : (Was Is : List ℕ → Type 0) (text : List ℕ) → ((whole : List ℕ) → Was whole → Is whole) → IsBeginning Was text → IsBeginning Is text
part_known Was Is text so (inl none) = inl none
part_known Was Is text so (inr p) = inr (p.0, so (text ++ p.0) p.1)

pub begun_known : (a b : Told) (Was Is : List ℕ → Type 0) → ((whole : List ℕ) → Was whole → Is whole) → Writes a b (IsBeginning Was) → Writes a b (IsBeginning Is)
begun_known a b Was Is so w = (w.0, w.1, part_known Was Is w.0 so w.2)

-- nothing is told, whoever is asked
module _ {A : Type 0} where
  pub silent : (h k : Account A) → k ≡ h → Hears h k []
  silent h k same = subst (λ (l : Account A). Hears h l []) (sym same) (hears_nil h)

-- ---- the parts of a file

pub manifest_text : (check : Check) (form : Form) (source : Source) (old : Tally) (first : Bool) (sites : Option (List Site)) (found text : List ℕ) (summary : Summary)
    → first ≡ is_clean old → ChecksManifest check first form source sites found summary → text ≡ written summary found → IsManifestText check form source old text
manifest_text check form source old first sites found text summary clean finds is = record {
  sites = sites;
  found = found;
  summary = summary;
  finds = subst (λ (b : Bool). ChecksManifest check b form source sites found summary) clean finds;
  text_is = is;
}

pub tag_text : (check : Check) (source : Source) (old : Tally) (first : Bool) (found text : List ℕ) (summary : Summary)
    → first ≡ is_clean old → ChecksWritten check first source (tagged source) found summary → text ≡ written summary found → IsTagText check source old text
tag_text check source old first found text summary clean finds is = record {
  found = found;
  summary = summary;
  finds = subst (λ (b : Bool). ChecksWritten check b source (tagged source) found summary) clean finds;
  text_is = is;
}

manifest_checked : (check : Check) (form : Form) (source : Source) (old new : Tally) (sites : Option (List Site)) (text : List ℕ) (count : ℕ)
    → IsManifestChecked check form source old sites text count new → IsManifestText check form source old text
manifest_checked check form source old new sites text count h = record { sites = sites; found = h.found; summary = h.summary; finds = h.finds; text_is = h.text_is }

tags_checked : (check : Check) (source : Source) (old new : Tally) (text : List ℕ) (count : ℕ) → AreTagsChecked check source old text count new → IsTagText check source old text
tags_checked check source old new text count h = record { found = h.found; summary = h.summary; finds = h.finds; text_is = h.text_is }

-- it is a manifest of this form
module _ (a b : Told) (check : Check) (o : Option Form) (form : Form) (path bytes marked : List ℕ) (old : Tally) (is : o ≡ Some form) (without : marked ≡ without_mark bytes) where
  pub declared_begun : Writes a b (IsBeginning (IsManifestText check form (source_at path marked) old)) → Writes a b (IsBeginning (IsDeclaredText check o path bytes old))
  declared_begun w =
      subst (λ (f : Option Form). Writes a b (IsBeginning (IsDeclaredText check f path bytes old))) (sym is)
      (subst (λ (bs : List ℕ). Writes a b (IsBeginning (IsManifestText check form (source_at path bs) old))) without w)

  pub declared_whole : (new : Tally) (sites : Option (List Site)) (count : ℕ) → Writes a b (λ text. IsManifestChecked check form (source_at path marked) old sites text count new)
      → Writes a b (IsBeginning (IsDeclaredText check o path bytes old))
  declared_whole new sites count w =
      declared_begun
      (all_of_text a b (λ text. IsManifestChecked check form (source_at path marked) old sites text count new) (IsManifestText check form (source_at path marked) old) w
      (λ text h. manifest_checked check form (source_at path marked) old new sites text count h))

-- its tags are taken
module _ (a b : Told) (check : Check) (taken : Bool) (path bytes text : List ℕ) (old : Tally) (are : taken ≡ true) (is : text ≡ source_bytes bytes) where
  pub tagged_begun : Writes a b (IsBeginning (IsTagText check (source_at path text) old)) → Writes a b (IsBeginning (IsTaggedText check taken path bytes old))
  tagged_begun w =
      subst (λ (t : Bool). Writes a b (IsBeginning (IsTaggedText check t path bytes old))) (sym are)
      (subst (λ (bs : List ℕ). Writes a b (IsBeginning (IsTagText check (source_at path bs) old))) is w)

  pub tagged_whole : (new : Tally) (count : ℕ) → Writes a b (λ found. AreTagsChecked check (source_at path text) old found count new)
      → Writes a b (IsBeginning (IsTaggedText check taken path bytes old))
  tagged_whole new count w =
      tagged_begun
      (all_of_text a b (λ found. AreTagsChecked check (source_at path text) old found count new) (IsTagText check (source_at path text) old) w
      (λ found h. tags_checked check (source_at path text) old new found count h))

-- ---- a file

tags_part : (check : Check) (folder : Option (List ℕ)) (taken : Bool) (path bytes : List ℕ) (old new : Tally) (used used' : List (List ℕ)) (text : List ℕ) (count : ℕ)
    → TagsPart check folder taken path bytes old used text count new used' → IsTaggedText check taken path bytes old text
tags_part check folder false path bytes old new used used' text count h = h.0
tags_part check folder true path bytes old new used used' text count h = tags_checked check (source_at path (source_bytes bytes)) old new text count h.0

module _ (check : Check) (t : Taken) (folder : Option (List ℕ)) (path bytes : List ℕ) (old : Tally) (noted : Notes) (form : Option Form) (form_is : form ≡ form_below t path) where
  -- in what it declares
  pub within_declared : (a b : Told) → Writes a b (IsBeginning (IsDeclaredText check form path bytes old)) → Writes a b (IsTextBegun check t folder path bytes old noted)
  within_declared a b w =
      (w.0, w.1, in_declared w.0 (subst (λ (f : Option Form). IsBeginning (IsDeclaredText check f path bytes old) w.0) form_is w.2))

  module _ (a b : Told) (between : Tally) (used : List (List ℕ)) (declared : ℕ) (w : Writes a b (λ x. DeclaresPart check folder form path bytes old noted.used x declared between used)) where
    -- in its tags
    pub within_tags : (c : Told) → Writes b c (IsBeginning (IsTaggedText check t.tags path bytes between)) → Writes a c (IsTextBegun check t folder path bytes old noted)
    within_tags c v = (
      w.0 ++ v.0,
      Appends-trans a.bytes b.bytes c.bytes w.0 v.0 w.1 v.1,
      in_tags w.0 v.0 declared between used (subst (λ (f : Option Form). DeclaresPart check folder f path bytes old noted.used w.0 declared between used) form_is w.2) v.2,
    )

    -- behind them
    pub behind_tags : (c : Told) (behind : Tally) (used' : List (List ℕ)) (count : ℕ) → Writes b c (λ x. TagsPart check folder t.tags path bytes between used x count behind used')
        → Writes a c (IsTextBegun check t folder path bytes old noted)
    behind_tags c behind used' count v =
        within_tags c
        (all_of_text b c (λ x. TagsPart check folder t.tags path bytes between used x count behind used') (IsTaggedText check t.tags path bytes between) v
        (λ x h. tags_part check folder t.tags path bytes between behind used used' x count h))

module _ (s : Shelved) (check : Check) (t : Taken) (folder : Option (List ℕ)) (path : List ℕ) (old : Tally) (noted : Notes) where
  -- it isn't read
  pub file_unread : (out : Told) (h k : Account CheckTrouble) → k ≡ h → Does out out h k (λ text told. IsFileBegun s check t folder path old noted text told)
  file_unread out h k same = heard_alone out h k [] (λ text told. IsFileBegun s check t folder path old noted text told) (silent h k same) (refl, inl refl)

  -- it is
  pub file_begun : (out out' : Told) (h : Account CheckTrouble) (bytes : List ℕ) → s.Holds path bytes → Writes out out' (IsTextBegun check t folder path bytes old noted)
      → Does out out' h h (λ text told. IsFileBegun s check t folder path old noted text told)
  file_begun out out' h bytes holds w =
      written_alone out out' h (IsTextBegun check t folder path bytes old noted) (λ text told. IsFileBegun s check t folder path old noted text told) w
      (λ text is. (refl, inr (bytes, holds, is)))
