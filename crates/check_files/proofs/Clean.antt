-- What a count that passes says.
use Rattle.std.proofs.Common.{◌≡◌, ◌∙◌, refl, sym, ap, inl, inr, ℕ, ◌+◌, ◌<◌, ◌==◌, ◌&&◌, Bool, true, false, cond, nat_lt, List, [], ◌∷◌, ◌++◌, append_assoc, append-nil, length, map, Option, None, Some, is_some, subst, arith}
use Rattle.std.specs.Prelude.{◌≢◌, ◌⊎◌, All, if◌then◌else◌}
use Rattle.std.proofs.lemmas.Bool.Decides.{nat_tests}
use Rattle.std.proofs.lemmas.List.{length-map}
use Rattle.std.proofs.lemmas.List.Elements.{All-nil, All-cons, All-head, All-tail}
use Rattle.std.proofs.lemmas.List.Sorted.{All-permutation, IsPermutation-sym, length_permutation}
use Rattle.std.proofs.lemmas.List.Sums.{count_by-le-length, sum_by-cons}
use Rattle.line_engine.specs.declared.lines.Summary.{Summary}
use Rattle.line_engine.specs.Output.{capped}
use Rattle.manifests.specs.declared.form.Form.{Form}
use Rattle.manifests.specs.declared.site.Site.{Site}
use Rattle.manifests.specs.Sites.{AreSites}
use Rattle.shelves.specs.Shelf.{Shelved}
use Rattle.source_trees.specs.Readings.{form_below}
use Rattle.source_trees.specs.declared.reading.Taken.{Taken}
use Rattle.spdx_lexer.specs.declared.token.ParseMode.{ParseMode}
use Rattle.spdx_check.specs.declared.check.Check.{Check}
use Rattle.spdx_check.specs.declared.totals.Totals.{Totals}
use Rattle.spdx_check.specs.Checking.{replacements_in}
use Rattle.spdx_check.specs.Finding.{IsFinding, IsTheFinding, Wrong, is_accepted, is_no_text, is_refused}
use Rattle.spdx_check.specs.Totals.{with_file}
use Rattle.check_sources.specs.Findings.{ChecksWritten, Source, refused_count}
use Rattle.check_sources.specs.Manifests.{ChecksManifest, check_in, declared_at}
use Rattle.check_sources.specs.Tags.{tagged}
use Rattle.check_sources.specs.Written.{Written}
use Rattle.check_sources.specs.Decoding.{source_bytes, without_mark}
use Rattle.check_files.specs.declared.trouble.CheckTrouble.{CheckTrouble}
use Rattle.check_files.specs.Clean.{AreTagsClean, Declares, DeclaresClean, HasTags, IsAccepted, IsCleanBy, IsDeclaredUse, IsFileClean, IsFileLicensed, IsFileUse, IsFileUseBy, IsLicensedBy, IsManifestClean, IsManifestUse, IsPassing, IsReadClean, IsReadLicensed, IsReadUse, IsTaggedUse, IsWrittenAccepted, TagsClean}
use Rattle.check_files.specs.Files.{DeclaresPart, IsFileChecked, IsFileStep, IsStepBy, NotesFile, TagsPart, has_both, is_wanted}
use Rattle.check_files.specs.Noted.{Grows, IsBare, IsUseOfManifest, Notes, with_bare}
use Rattle.check_files.specs.Parts.{AreTagsChecked, IsManifestChecked, source_at}
use Rattle.check_files.specs.Tally.{Tally, is_clean, once, passed_over, status_of, with_found, with_table}

-- ---- counts

-- counts never go down
pub sum_none : (a b : ℕ) → capped (a + b) ≡ 0 → (a ≡ 0) × (b ≡ 0)
sum_none a b e = (omega (arith, e), omega (arith, e))

not_short : (short : Bool) → short ≡ true → short ≡ false → ⊥
not_short short h k = cc

pub not_passed : (old new : Tally) → new ≡ passed_over old → IsPassing new → ⊥
not_passed old new e h = not_short new.totals.is_short (ap (λ (t : Tally). t.totals.is_short) e) h.is_whole

abbrev counted_by : Bool → Totals → Summary → Totals
counted_by some t s = if some then with_file t s.lines s.refused else t

found_by : (some : Bool) (t : Totals) (s : Summary) → (counted_by some t s).is_short ≡ false → (counted_by some t s).refused ≡ 0
    → (t.is_short ≡ false) × (t.refused ≡ 0) × (some ≡ true → s.refused ≡ 0)
found_by true t s short none = let parts = sum_none t.refused s.refused none in (short, parts.0, λ e. parts.1)
found_by false t s short none = (short, none, λ e. absurd cc)

-- nothing was found before, nor in this file if its expressions count
pub found_none : (s : Summary) (t : Tally) → IsPassing (with_found s t) → IsPassing t × (nat_lt 0 s.lines ≡ true → s.refused ≡ 0)
found_none s t h =
    let parts = found_by (nat_lt 0 s.lines) t.totals s h.is_whole h.none_refused in
    (record { is_whole = parts.0; none_refused = parts.1; none_owed = h.none_owed; none_bare = h.none_bare }, parts.2)

table_none : (is : Bool) (path : List ℕ) (t : Tally) → IsPassing (with_table is path t) → IsPassing t
table_none true path t h = record { is_whole = h.is_whole; none_refused = h.none_refused; none_owed = h.none_owed; none_bare = h.none_bare }
table_none false path t h = h

once_none : (both : Bool) (t : Tally) → IsPassing (once both t) → IsPassing t
once_none true t h = record { is_whole = h.is_whole; none_refused = h.none_refused; none_owed = h.none_owed; none_bare = h.none_bare }
once_none false t h = h

-- ---- expressions

none_wrong : (o : Option Wrong) → ◌≡◌ {A = ℕ} (cond (is_some o) 1 0) 0 → o ≡ None
none_wrong None e = refl
none_wrong (Some w) e = absurd (omega (arith, e))

from_map : {A B : Type 0} (P : B → Type 0) (f : A → B) (xs : List A) → All P (map f xs) → All (λ (x : A). P (f x)) xs
from_map {A} P f [] h = All-nil (λ (x : A). P (f x))
from_map {A} P f (x ∷ xs) h =
    All-cons (λ (y : A). P (f y)) x xs (All-head P (f x) (map f xs) h) (from_map P f xs (All-tail P (f x) (map f xs) h))

module _ (check : Check) where
  accepted_by : (m : ParseMode) (bytes : List ℕ) (found : Option Wrong) → IsFinding check.catalogue.now (replacements_in check) m bytes found → found ≡ None → IsAccepted check m bytes
  accepted_by m bytes _ (is_accepted utf8 reads) e = (utf8, reads)
  accepted_by m bytes _ (is_refused fault s fix utf8 of_fault of_fix) e = absurd cc
  accepted_by m bytes _ (is_no_text no_text) e = absurd cc

  -- what has no finding is accepted
  pub accepted : (m : ParseMode) (finding : List ℕ → Option Wrong) (bytes : List ℕ) → IsTheFinding check.catalogue.now (replacements_in check) m bytes (finding bytes)
      → finding bytes ≡ None → IsAccepted check m bytes
  accepted m finding bytes h e = accepted_by m bytes (finding bytes) h.given e

  each_accepted : (finding : List ℕ → Option Wrong) → ((bytes : List ℕ) → IsTheFinding check.catalogue.now (replacements_in check) check.mode bytes (finding bytes))
      → (ws : List Written) → refused_count finding ws ≡ 0 → All (IsWrittenAccepted check) ws
  each_accepted finding findings [] e = All-nil (IsWrittenAccepted check)
  each_accepted finding findings (w ∷ ws) e =
      let one : Written → ℕ = λ (x : Written). cond (is_some (finding x.text)) 1 0 in
      let sum : refused_count finding (w ∷ ws) ≡ one w + refused_count finding ws = sum_by-cons one w ws in
      let first : one w ≡ 0 = omega (arith, sum, e) in
      let others : refused_count finding ws ≡ 0 = omega (arith, sum, e) in
      All-cons (IsWrittenAccepted check) w ws (accepted check.mode finding w.text (findings w.text) (none_wrong (finding w.text) first)) (each_accepted finding findings ws others)

refused_none : (finding : List ℕ → Option Wrong) (s : Summary) (ws : List Written) (some : Bool) → nat_lt 0 s.lines ≡ some → s.lines ≡ length ws → s.refused ≡ refused_count finding ws
    → (nat_lt 0 s.lines ≡ true → s.refused ≡ 0) → s.refused ≡ 0
refused_none finding s ws true e lines refused h = h e
refused_none finding s ws false e lines refused h =
    let at_most = count_by-le-length (λ (w : Written). is_some (finding w.text)) ws in
    let no_lines : s.lines ≡ 0 = grind (arith, nat_tests, e) in
    omega (arith, no_lines, lines, refused, at_most)

-- where none is refused that counts, each is accepted
written_clean : (check : Check) (first : Bool) (source : Source) (ws : List Written) (text : List ℕ) (s : Summary) → ChecksWritten check first source ws text s
    → (nat_lt 0 s.lines ≡ true → s.refused ≡ 0) → All (IsWrittenAccepted check) ws
written_clean check first source ws text s h none =
    each_accepted check h.finding h.findings ws (sym h.refused ∙ refused_none h.finding s ws (nat_lt 0 s.lines) refl h.lines h.refused none)

-- what is no manifest is refused
refused_whole : (s : Summary) → s ≡ record { lines = 1; refused = 1 } → (nat_lt 0 s.lines ≡ true → s.refused ≡ 0) → ⊥
refused_whole s summary_is none =
    let one : ◌≡◌ {A = ℕ} 1 0 = subst (λ (x : Summary). nat_lt 0 x.lines ≡ true → x.refused ≡ 0) summary_is none refl in
    absurd (omega (arith, one))

declared_clean : (check : Check) (first : Bool) (form : Form) (source : Source) (sites : Option (List Site)) (text : List ℕ) (s : Summary)
    → ChecksManifest check first form source sites text s → (nat_lt 0 s.lines ≡ true → s.refused ≡ 0) → IsManifestClean check form source.bytes
declared_clean check first form source (Some ordered) text s h none = record {
  sites = h.are.sites;
  declares = h.are.are;
  accepted =
      let each = written_clean (check_in form check) first source (map declared_at ordered) text s h.finds none in
      let Accepted : Site → Type 0 = λ (site : Site). IsWrittenAccepted (check_in form check) (declared_at site) in
      All-permutation Accepted ordered h.are.sites (IsPermutation-sym h.are.sites ordered h.are.order.same) (from_map (IsWrittenAccepted (check_in form check)) declared_at ordered each);
}
declared_clean check first form source None text s h none = absurd (refused_whole s h.summary_is none)

-- ---- the parts of a file

-- nothing was found before, nor in the manifest
manifest_none : (check : Check) (form : Form) (source : Source) (old : Tally) (sites : Option (List Site)) (text : List ℕ) (count : ℕ) (new : Tally)
    (h : IsManifestChecked check form source old sites text count new) → IsPassing new → IsPassing old × (nat_lt 0 h.summary.lines ≡ true → h.summary.refused ≡ 0)
manifest_none check form source old sites text count new h passes =
    found_none h.summary old (table_none h.counts.0 source.path (with_found h.summary old) (subst IsPassing h.counts.2 passes))

pub manifest_clean : (check : Check) (form : Form) (source : Source) (old : Tally) (sites : Option (List Site)) (text : List ℕ) (count : ℕ) (new : Tally)
    → IsManifestChecked check form source old sites text count new → IsPassing new → IsPassing old × IsManifestClean check form source.bytes
manifest_clean check form source old sites text count new h passes =
    let counted = manifest_none check form source old sites text count new h passes in
    (counted.0, declared_clean check (is_clean old) form source sites h.found h.summary h.finds counted.1)

pub tags_clean : (check : Check) (source : Source) (old : Tally) (text : List ℕ) (count : ℕ) (new : Tally) → AreTagsChecked check source old text count new
    → IsPassing new → IsPassing old × AreTagsClean check source
tags_clean check source old text count new h passes =
    let counted = found_none h.summary old (subst IsPassing h.counts passes) in
    (counted.0, written_clean check (is_clean old) source (tagged source) h.found h.summary h.finds counted.1)

-- ---- a file

declares_clean : (check : Check) (folder : Option (List ℕ)) (form : Option Form) (path bytes : List ℕ) (old : Tally) (used : List (List ℕ)) (text : List ℕ) (count : ℕ) (new : Tally)
    (used' : List (List ℕ)) → DeclaresPart check folder form path bytes old used text count new used' → IsPassing new → IsPassing old × DeclaresClean check form bytes
declares_clean check folder None path bytes old used text count new used' h passes = (subst IsPassing h.2 passes, tt)
declares_clean check folder (Some form) path bytes old used text count new used' h passes =
    manifest_clean check form (source_at path (without_mark bytes)) old h.sites text count new h.checks passes

part_clean : (check : Check) (folder : Option (List ℕ)) (tags : Bool) (path bytes : List ℕ) (old : Tally) (used : List (List ℕ)) (text : List ℕ) (count : ℕ) (new : Tally)
    (used' : List (List ℕ)) → TagsPart check folder tags path bytes old used text count new used' → IsPassing new → IsPassing old × TagsClean check tags path bytes
part_clean check folder false path bytes old used text count new used' h passes = (subst IsPassing h.2 passes, tt)
part_clean check folder true path bytes old used text count new used' h passes =
    tags_clean check (source_at path (source_bytes bytes)) old text count new h.0 passes

module _ (s : Shelved) (check : Check) (t : Taken) (folder : Option (List ℕ)) (path : List ℕ) (old : Tally) (noted : Notes) where
  -- what a file declares passes, where all of it does
  between_passes : (bytes text : List ℕ) (new : Tally) (noted' : Notes) (h : IsFileChecked s check t folder path bytes old noted text new noted') → IsPassing new → IsPassing h.between
  between_passes bytes text new noted' h passes =
      (part_clean check folder t.tags path bytes h.between h.used h.tagged h.tagged_count h.behind noted'.used h.tags (once_none (has_both h.declared_count h.tagged_count) h.behind (subst IsPassing h.counts passes))).0

  checked_clean : (bytes text : List ℕ) (new : Tally) (noted' : Notes) → s.Holds path bytes → IsFileChecked s check t folder path bytes old noted text new noted'
      → IsPassing new → IsPassing old × IsReadClean s check t path
  checked_clean bytes text new noted' holds h passes =
      let behind = part_clean check folder t.tags path bytes h.between h.used h.tagged h.tagged_count h.behind noted'.used h.tags (once_none (has_both h.declared_count h.tagged_count) h.behind (subst IsPassing h.counts passes)) in
      let before = declares_clean check folder (form_below t path) path bytes old noted.used h.declared h.declared_count h.between h.used h.declares behind.0 in
      (before.0, record { bytes = bytes; holds = holds; declared = before.1; tags = behind.1 })

  step_clean : (wanted : Bool) (text : List ℕ) (told : List CheckTrouble) (new : Tally) (noted' : Notes) → IsStepBy wanted s check t folder path old noted text told new noted'
      → IsPassing new → IsPassing old × IsCleanBy wanted s check t path
  step_clean false text told new noted' h passes = (subst IsPassing h.2 passes, tt)
  step_clean true text told new noted' (inl h) passes = checked_clean h.0 text new noted' h.1 h.2 passes
  step_clean true text told new noted' (inr h) passes = absurd (not_passed old new h.0.new_is passes)

  -- where the count passes, it passed before, and the file is clean
  pub file_clean : (text : List ℕ) (told : List CheckTrouble) (new : Tally) (noted' : Notes) → IsFileStep s check t folder path old noted text told new noted'
      → IsPassing new → IsPassing old × IsFileClean s check t path
  file_clean text told new noted' h passes = step_clean (is_wanted t path) text told new noted' h passes

-- ---- license texts

-- what is refused as a whole is found, so these are the sites of a manifest
sites_use : (check : Check) (folder : Option (List ℕ)) (first : Bool) (form : Form) (source : Source) (sites : Option (List Site)) (text : List ℕ) (s : Summary) (used used' : List (List ℕ))
    → ChecksManifest check first form source sites text s → (nat_lt 0 s.lines ≡ true → s.refused ≡ 0) → Grows used used' (IsUseOfManifest check folder form sites)
    → Grows used used' (IsManifestUse check folder form source.bytes)
sites_use check folder first form source (Some sites) text s used used' h none notes = (notes.0, notes.1, record { sites = sites; declares = h.are; needs = notes.2 })
sites_use check folder first form source None text s used used' h none notes = absurd (refused_whole s h.summary_is none)

declared_use : (check : Check) (folder : Option (List ℕ)) (form : Option Form) (path bytes : List ℕ) (old : Tally) (used : List (List ℕ)) (text : List ℕ) (count : ℕ) (new : Tally)
    (used' : List (List ℕ)) → DeclaresPart check folder form path bytes old used text count new used' → IsPassing new → Grows used used' (IsDeclaredUse check folder form bytes)
declared_use check folder None path bytes old used text count new used' h passes = ([], h.3 ∙ sym (append-nil used), refl)
declared_use check folder (Some form) path bytes old used text count new used' h passes =
    let source = source_at path (without_mark bytes) in
    let m = h.checks in
    let counted = manifest_none check form source old h.sites text count new m passes in
    sites_use check folder (is_clean old) form source h.sites m.found m.summary used used' m.finds counted.1 h.notes

tagged_use : (check : Check) (folder : Option (List ℕ)) (tags : Bool) (path bytes : List ℕ) (old : Tally) (used : List (List ℕ)) (text : List ℕ) (count : ℕ) (new : Tally)
    (used' : List (List ℕ)) → TagsPart check folder tags path bytes old used text count new used' → Grows used used' (IsTaggedUse check folder tags path bytes)
tagged_use check folder false path bytes old used text count new used' h = ([], h.3 ∙ sym (append-nil used), refl)
tagged_use check folder true path bytes old used text count new used' h = h.1

module _ (s : Shelved) (check : Check) (t : Taken) (folder : Option (List ℕ)) (path : List ℕ) (old : Tally) (noted : Notes) where
  checked_use : (bytes text : List ℕ) (new : Tally) (noted' : Notes) → s.Holds path bytes → IsFileChecked s check t folder path bytes old noted text new noted'
      → IsPassing new → Grows noted.used noted'.used (IsReadUse s check t folder path)
  checked_use bytes text new noted' holds h passes =
      let between = between_passes s check t folder path old noted bytes text new noted' h passes in
      let first = declared_use check folder (form_below t path) path bytes old noted.used h.declared h.declared_count h.between h.used h.declares between in
      let second = tagged_use check folder t.tags path bytes h.between h.used h.tagged h.tagged_count h.behind noted'.used h.tags in (
        first.0 ++ second.0,
        second.1 ∙ ap (λ (names : List (List ℕ)). names ++ second.0) first.1 ∙ append_assoc noted.used first.0 second.0,
        record { bytes = bytes; declared = first.0; tagged = second.0; holds = holds; declared_are = first.2; tagged_are = second.2; names_are = refl },
      )

  step_use : (wanted : Bool) (text : List ℕ) (told : List CheckTrouble) (new : Tally) (noted' : Notes) → IsStepBy wanted s check t folder path old noted text told new noted'
      → IsPassing new → Grows noted.used noted'.used (IsFileUseBy wanted s check t folder path)
  step_use false text told new noted' h passes = ([], ap (λ (n : Notes). n.used) h.3 ∙ sym (append-nil noted.used), refl)
  step_use true text told new noted' (inl h) passes = checked_use h.0 text new noted' h.1 h.2 passes
  step_use true text told new noted' (inr h) passes = absurd (not_passed old new h.0.new_is passes)

  -- the names are added that its expressions need
  pub file_use : (text : List ℕ) (told : List CheckTrouble) (new : Tally) (noted' : Notes) → IsFileStep s check t folder path old noted text told new noted'
      → IsPassing new → Grows noted.used noted'.used (IsFileUse s check t folder path)
  file_use text told new noted' h passes = step_use (is_wanted t path) text told new noted' h passes

-- ---- files without a license

not_counted : (count : ℕ) → count ≡ 0 → (count == 0) ≡ false → ⊥
not_counted count none e = grind (arith, none, e)

none_long : {A : Type 0} (xs : List A) (count : ℕ) → count ≡ length xs → (count == 0) ≡ false → xs ≢ []
none_long {A} xs count many e none =
    not_counted count (many ∙ ap (λ (ys : List A). length ys) none) e

declares_some : (check : Check) (first : Bool) (form : Form) (source : Source) (sites : Option (List Site)) (text : List ℕ) (s : Summary) → ChecksManifest check first form source sites text s
    → (nat_lt 0 s.lines ≡ true → s.refused ≡ 0) → (s.lines == 0) ≡ false → (found : List Site) × AreSites form source.bytes found × (found ≢ [])
declares_some check first form source (Some ordered) text s h none e = (
  h.are.sites,
  h.are.are,
  none_long h.are.sites s.lines (h.finds.lines ∙ length-map ordered declared_at ∙ length_permutation h.are.sites ordered h.are.order.same) e,
)
declares_some check first form source None text s h none e = absurd (refused_whole s h.summary_is none)

some_declared : (check : Check) (folder : Option (List ℕ)) (form : Option Form) (path bytes : List ℕ) (old : Tally) (used : List (List ℕ)) (text : List ℕ) (count : ℕ) (new : Tally)
    (used' : List (List ℕ)) → DeclaresPart check folder form path bytes old used text count new used' → IsPassing new → (count == 0) ≡ false → Declares form bytes
some_declared check folder None path bytes old used text count new used' h passes e = absurd (not_counted count h.1 e)
some_declared check folder (Some form) path bytes old used text count new used' h passes e =
    let m = h.checks in
    let source = source_at path (without_mark bytes) in
    let counted = manifest_none check form source old h.sites text count new m passes in
    declares_some check (is_clean old) form source h.sites m.found m.summary m.finds counted.1 (subst (λ (n : ℕ). (n == 0) ≡ false) m.count_is e)

some_tagged : (check : Check) (folder : Option (List ℕ)) (tags : Bool) (path bytes : List ℕ) (old : Tally) (used : List (List ℕ)) (text : List ℕ) (count : ℕ) (new : Tally)
    (used' : List (List ℕ)) → TagsPart check folder tags path bytes old used text count new used' → (count == 0) ≡ false → HasTags tags path bytes
some_tagged check folder false path bytes old used text count new used' h e = absurd (not_counted count h.1 e)
some_tagged check folder true path bytes old used text count new used' h e =
    none_long (tagged (source_at path (source_bytes bytes))) count (h.0.count_is ∙ h.0.finds.lines) e

not_added : {A : Type 0} (xs : List A) (x : A) → xs ++ x ∷ [] ≡ [] → ⊥
not_added [] x e = cc
not_added (y ∷ xs) x e = cc

-- none is noted, so this one isn't either
not_noted : (s : Shelved) (folder : Option (List ℕ)) (path bytes : List ℕ) (is : Bool) (old new : List (List ℕ)) → IsBare s folder path bytes is → new ≡ with_bare is path old → new ≡ []
    → (old ≡ []) × IsBare s folder path bytes false
not_noted s folder path bytes true old new h e none = absurd (not_added old path (sym e ∙ none))
not_noted s folder path bytes false old new h e none = (sym e ∙ none, h)

module _ (s : Shelved) (check : Check) (t : Taken) (folder : Option (List ℕ)) (path : List ℕ) (old : Tally) (noted : Notes) where
  -- by whether it declares no expression and whether it has none behind a tag
  told_by : (no_sites no_tags : Bool) (bytes : List ℕ) (untagged : List (List ℕ)) → NotesFile (no_sites && no_tags) s folder path bytes noted.untagged untagged → untagged ≡ []
      → (no_sites ≡ false → Declares (form_below t path) bytes) → (no_tags ≡ false → HasTags t.tags path bytes)
      → (noted.untagged ≡ []) × (Declares (form_below t path) bytes ⊎ HasTags t.tags path bytes ⊎ IsBare s folder path bytes false)
  told_by true true bytes untagged h none sites tags =
      let parts = not_noted s folder path bytes h.0 noted.untagged untagged h.1 h.2 none in (parts.0, inr (inr parts.1))
  told_by true false bytes untagged h none sites tags = (sym h ∙ none, inr (inl (tags refl)))
  told_by false no_tags bytes untagged h none sites tags = (sym h ∙ none, inl (sites refl))

  checked_licensed : (bytes text : List ℕ) (new : Tally) (noted' : Notes) → s.Holds path bytes → IsFileChecked s check t folder path bytes old noted text new noted'
      → IsPassing new → noted'.untagged ≡ [] → (noted.untagged ≡ []) × IsReadLicensed s t folder path
  checked_licensed bytes text new noted' holds h passes none =
      let between = between_passes s check t folder path old noted bytes text new noted' h passes in
      let parts =
      told_by (h.declared_count == 0) (h.tagged_count == 0) bytes noted'.untagged h.untagged none
      (λ e. some_declared check folder (form_below t path) path bytes old noted.used h.declared h.declared_count h.between h.used h.declares between e)
      (λ e. some_tagged check folder t.tags path bytes h.between h.used h.tagged h.tagged_count h.behind noted'.used h.tags e) in
      (parts.0, record { bytes = bytes; holds = holds; tells = parts.1 })

  step_licensed : (wanted : Bool) (text : List ℕ) (told : List CheckTrouble) (new : Tally) (noted' : Notes) → IsStepBy wanted s check t folder path old noted text told new noted'
      → IsPassing new → noted'.untagged ≡ [] → (noted.untagged ≡ []) × IsLicensedBy wanted s t folder path
  step_licensed false text told new noted' h passes none = (sym (ap (λ (n : Notes). n.untagged) h.3) ∙ none, tt)
  step_licensed true text told new noted' (inl h) passes none = checked_licensed h.0 text new noted' h.1 h.2 passes none
  step_licensed true text told new noted' (inr h) passes none = absurd (not_passed old new h.0.new_is passes)

  -- where no file is noted to be without a license, this one isn't
  pub file_licensed : (text : List ℕ) (told : List CheckTrouble) (new : Tally) (noted' : Notes) → IsFileStep s check t folder path old noted text told new noted'
      → IsPassing new → noted'.untagged ≡ [] → (noted.untagged ≡ []) × IsFileLicensed s t folder path
  file_licensed text told new noted' h passes none = step_licensed (is_wanted t path) text told new noted' h passes none

-- ---- the status

passing_by : (short refused texts bare : Bool) → (if short then 2 else (if (refused && texts) && bare then 0 else 1)) < 1 → (short ≡ false) × (refused ≡ true) × (texts ≡ true) × (bare ≡ true)
passing_by true refused texts bare h = absurd (omega (arith, h))
passing_by false false texts bare h = absurd (omega (arith, h))
passing_by false true false bare h = absurd (omega (arith, h))
passing_by false true true false h = absurd (omega (arith, h))
passing_by false true true true h = (refl, refl, refl, refl)

-- the status is 0 where the count passes alone
pub passing : (t : Tally) → status_of t < 1 → IsPassing t
passing t h =
    let parts = passing_by t.totals.is_short (t.totals.refused == 0) (t.texts == 0) (t.bare == 0) h in
    record { is_whole = parts.0; none_refused = grind (arith, parts.1); none_owed = grind (arith, parts.2); none_bare = grind (arith, parts.3) }
