-- Each step of a check adds the findings that it writes.
use Rattle.std.proofs.Common.{◌≡◌, ◌∙◌, refl, ap, inl, inr, ℕ, ◌==◌, ◌&&◌, Bool, true, false, nat_lt, List, [], ◌∷◌, ◌++◌, count_by, length, map, Option, None, Some, is_some}
use Rattle.std.specs.Prelude.{if◌then◌else◌, string_bytes}
use Rattle.line_engine.specs.Output.{capped, summary_of, text_of}
use Rattle.line_engine.specs.declared.lines.Summary.{Summary}
use Rattle.manifests.specs.declared.form.Form.{Form}
use Rattle.manifests.specs.declared.site.Site.{Site}
use Rattle.shelves.specs.Shelf.{Shelved}
use Rattle.source_trees.specs.Readings.{form_below, is_all}
use Rattle.source_trees.specs.declared.reading.Taken.{Taken}
use Rattle.source_trees.specs.declared.walk.Seen.{Seen}
use Rattle.source_trees.specs.declared.walk.Seen.TheVariants as seen
use Rattle.spdx_check.specs.declared.check.Check.{Check}
use Rattle.spdx_check.specs.Finding.{Wrong}
use Rattle.spdx_check.specs.Totals.{with_file}
use Rattle.check_sources.specs.Findings.{Source}
use Rattle.check_sources.specs.Tags.{tagged}
use Rattle.check_sources.specs.Counted.{written}
use Rattle.check_sources.specs.Decoding.{source_bytes, without_mark}
use Rattle.check_sources.specs.Owed.{Whole, bare_at, owed_by}
use Rattle.check_files.specs.declared.trouble.CheckTrouble.{CheckTrouble}
use Rattle.check_files.specs.Files.{DeclaresPart, IsFileChecked, IsStepBy, TagsPart, has_both, is_wanted}
use Rattle.check_files.specs.Noted.{Notes}
use Rattle.check_files.specs.Parts.{AreTagsChecked, IsManifestChecked, source_at}
use Rattle.check_files.specs.Tally.{Tally, is_clean, once, with_bare, with_found, with_lines, with_table, with_texts, with_untagged}
use Rattle.check_program.specs.Ends.{AreOwed, AreWholes, IsBareStep, IsEndBy, IsTextsStep}
use Rattle.check_program.specs.Steps.{ArePassed, AreSteps, IsSeenStep, listed, more, none, trouble_of}
use Rattle.check_program.specs.Trees.{IsTreeChecked, IsTreeStep, Manner}
use Rattle.check_program.specs.Lines.{rule_of}
use Rattle.check_program.proofs.Adding.{Adds, adds_as, adds_both, adds_none, none_bare, none_capped, none_owed, none_refused}
use Rattle.check_program.proofs.Found.{checks_added, lines_added, manifest_added, wholes_added}

-- the text has findings behind those that were counted, and they are counted
abbrev pub AddsTo : Check → Tally → List ℕ → Tally → Type 0
AddsTo check old text new = Adds check.format (is_clean old) text (is_clean new)

module _ (check : Check) where
  -- nothing is written, and nothing is found
  pub nothing_added : (old : Tally) (text : List ℕ) (new : Tally) → text ≡ [] → is_clean new ≡ is_clean old → AddsTo check old text new
  nothing_added old text new e d = adds_as check.format (is_clean old) (is_clean old) (is_clean new) [] text (adds_none check.format (is_clean old)) e d

  pub both_added : (old between new : Tally) (text own : List ℕ) → AddsTo check old text between → AddsTo check between own new → AddsTo check old (text ++ own) new
  both_added old between new text own h k = adds_both check.format (is_clean old) (is_clean between) (is_clean new) text own h k

  -- what else is counted, or how it is written, doesn't matter
  pub same_added : (old : Tally) (text other : List ℕ) (new counted : Tally) → AddsTo check old text counted → other ≡ text → is_clean new ≡ is_clean counted → AddsTo check old other new
  same_added old text other new counted h e d = adds_as check.format (is_clean old) (is_clean counted) (is_clean new) text other h e d

  -- ---- lines

  pub lines_counted : (finding : List ℕ → Option Wrong) (name : List ℕ) (lines : List (List ℕ)) (blanks : ℕ) (old : Tally)
      → AddsTo check old (text_of (rule_of check finding old name) lines) (with_lines (summary_of (rule_of check finding old name) lines) blanks old)
  lines_counted finding name lines blanks old =
      let rule = rule_of check finding old name in
      let count = count_by rule.refuses lines in
      let text = text_of rule lines in
      adds_as check.format (is_clean old) (is_clean old && (count == 0)) (is_clean (with_lines (summary_of rule lines) blanks old)) text text
      (lines_added check.format finding name (is_clean old) lines) refl
      (none_refused old.totals.refused (capped count) (old.texts == 0) (old.bare == 0) ∙ ap (λ (b : Bool). is_clean old && b) (none_capped count))

  -- ---- the parts of a file

  -- what is found counts, unless there are no expressions
  found_by : (some : Bool) (s : Summary) (old : Tally) (found : List ℕ) → Adds check.format (is_clean old) found (is_clean old && (s.refused == 0))
      → AddsTo check old (if some then found else []) (record old { totals = if some then with_file old.totals s.lines s.refused else old.totals })
  found_by true s old found h =
      adds_as check.format (is_clean old) (is_clean old && (s.refused == 0)) (is_clean (record old { totals = with_file old.totals s.lines s.refused })) found found h refl
      (none_refused old.totals.refused s.refused (old.texts == 0) (old.bare == 0))
  found_by false s old found h = adds_none check.format (is_clean old)

  found_counted : (s : Summary) (old : Tally) (found : List ℕ) → Adds check.format (is_clean old) found (is_clean old && (s.refused == 0)) → AddsTo check old (written s found) (with_found s old)
  found_counted s old found h = found_by (nat_lt 0 s.lines) s old found h

  clean_table : (is : Bool) (path : List ℕ) (t : Tally) → is_clean (with_table is path t) ≡ is_clean t
  clean_table true path t = refl
  clean_table false path t = refl

  pub manifest_step : (form : Form) (source : Source) (old : Tally) (sites : Option (List Site)) (text : List ℕ) (count : ℕ) (new : Tally)
      → IsManifestChecked check form source old sites text count new → AddsTo check old text new
  manifest_step form source old sites text count new h =
      let found = manifest_added source h.fits check (is_clean old) form sites h.found h.summary h.finds in
      same_added old (written h.summary h.found) text new (with_found h.summary old) (found_counted h.summary old h.found found) h.text_is
      (ap is_clean h.counts.2 ∙ clean_table h.counts.0 source.path (with_found h.summary old))

  pub tags_step : (source : Source) (old : Tally) (text : List ℕ) (count : ℕ) (new : Tally) → AreTagsChecked check source old text count new → AddsTo check old text new
  tags_step source old text count new h =
      let found = checks_added source h.fits check (is_clean old) (tagged source) h.found h.summary h.finds in
      same_added old (written h.summary h.found) text new (with_found h.summary old) (found_counted h.summary old h.found found) h.text_is (ap is_clean h.counts)

  -- ---- a file

  declares_step : (folder : Option (List ℕ)) (form : Option Form) (path bytes : List ℕ) (old : Tally) (used : List (List ℕ)) (text : List ℕ) (count : ℕ) (new : Tally) (used' : List (List ℕ))
      → DeclaresPart check folder form path bytes old used text count new used' → AddsTo check old text new
  declares_step folder None path bytes old used text count new used' h = nothing_added old text new h.0 (ap is_clean h.2)
  declares_step folder (Some form) path bytes old used text count new used' h =
      manifest_step form (source_at path (without_mark bytes)) old h.sites text count new h.checks

  tagged_step : (folder : Option (List ℕ)) (taken : Bool) (path bytes : List ℕ) (old : Tally) (used : List (List ℕ)) (text : List ℕ) (count : ℕ) (new : Tally) (used' : List (List ℕ))
      → TagsPart check folder taken path bytes old used text count new used' → AddsTo check old text new
  tagged_step folder false path bytes old used text count new used' h = nothing_added old text new h.0 (ap is_clean h.2)
  tagged_step folder true path bytes old used text count new used' h = tags_step (source_at path (source_bytes bytes)) old text count new h.0

  clean_once : (both : Bool) (t : Tally) → is_clean (once both t) ≡ is_clean t
  clean_once true t = refl
  clean_once false t = refl

  module _ (s : Shelved) (t : Taken) (folder : Option (List ℕ)) where
    checked_step : (path bytes : List ℕ) (old : Tally) (noted : Notes) (text : List ℕ) (new : Tally) (noted' : Notes)
        → IsFileChecked s check t folder path bytes old noted text new noted' → AddsTo check old text new
    checked_step path bytes old noted text new noted' h =
        let declared = declares_step folder (form_below t path) path bytes old noted.used h.declared h.declared_count h.between h.used h.declares in
        let behind = tagged_step folder t.tags path bytes h.between h.used h.tagged h.tagged_count h.behind noted'.used h.tags in
        same_added old (h.declared ++ h.tagged) text new h.behind (both_added old h.between h.behind h.declared h.tagged declared behind) h.text_is
        (ap is_clean h.counts ∙ clean_once (has_both h.declared_count h.tagged_count) h.behind)

    file_step : (wanted : Bool) (path : List ℕ) (old : Tally) (noted : Notes) (text : List ℕ) (told : List CheckTrouble) (new : Tally) (noted' : Notes)
        → IsStepBy wanted s check t folder path old noted text told new noted' → AddsTo check old text new
    file_step false path old noted text told new noted' h = nothing_added old text new h.0 (ap is_clean h.2)
    file_step true path old noted text told new noted' (inl h) = checked_step path h.0 old noted text new noted' h.2
    file_step true path old noted text told new noted' (inr h) = nothing_added old text new h.0.text_is (ap is_clean h.0.new_is)

  -- ---- a folder

  pub passed_step : (ts : List CheckTrouble) (old : Tally) (text : List ℕ) (told : List CheckTrouble) (new : Tally) → ArePassed ts old text told new → AddsTo check old text new
  passed_step [] old text told new h = nothing_added old text new h.text_is (ap is_clean h.new_is)
  passed_step (t ∷ ts) old text told new h = nothing_added old text new h.text_is (ap is_clean h.new_is)

  module _ (s : Shelved) (t : Taken) (folder : Option (List ℕ)) where
    seen_step : (x : Seen) (old : Tally) (noted : Notes) (text : List ℕ) (told : List CheckTrouble) (new : Tally) (noted' : Notes)
        → IsSeenStep s check t folder x old noted text told new noted' → AddsTo check old text new
    seen_step (seen.File n) old noted text told new noted' h = file_step s t folder (is_wanted t (string_bytes n)) (string_bytes n) old noted text told new noted' h
    seen_step (seen.LeftOut n) old noted text told new noted' h = nothing_added old text new h.0 (ap is_clean h.2)
    seen_step (seen.LeftBehind n) old noted text told new noted' h = nothing_added old text new h.0 (ap is_clean h.2)
    seen_step (seen.Folder n unnamed) old noted text told new noted' h = passed_step (listed (trouble_of (seen.Folder n unnamed))) old text told new h.0
    seen_step (seen.Unread n e) old noted text told new noted' h = passed_step (listed (trouble_of (seen.Unread n e))) old text told new h.0

    all_steps : {all : List Seen} {old : Tally} {noted : Notes} {text : List ℕ} {told : List CheckTrouble} {new : Tally} {noted' : Notes}
        → AreSteps s check t folder all old noted text told new noted' → AddsTo check old text new
    all_steps (none {old = old}) = adds_none check.format (is_clean old)
    all_steps (more {old = old} {between = between} {new = new} {notes = notes} {noted' = noted'} {text = text} x own own_told before step) =
        both_added old between new text own (all_steps before) (seen_step x between notes own own_told new noted' step)

  -- what is told of whole files
  texts_added : (wholes : List Whole) (old : Tally) (text : List ℕ) (new : Tally) → AreWholes check wholes with_texts old text new → AddsTo check old text new
  texts_added wholes old text new h =
      adds_as check.format (is_clean old) (is_clean old && (length wholes == 0)) (is_clean new) _ text (wholes_added check.format (is_clean old) wholes) h.text_is
      (ap is_clean h.new_is ∙ none_owed (old.totals.refused == 0) (old.bare == 0) old.texts (length wholes))

  bare_added : (wholes : List Whole) (old : Tally) (text : List ℕ) (new : Tally) → AreWholes check wholes with_bare old text new → AddsTo check old text new
  bare_added wholes old text new h =
      adds_as check.format (is_clean old) (is_clean old && (length wholes == 0)) (is_clean new) _ text (wholes_added check.format (is_clean old) wholes) h.text_is
      (ap is_clean h.new_is ∙ none_bare (old.totals.refused == 0) (old.texts == 0) old.bare (length wholes))

  owed_step : (folder : List ℕ) (used files : List (List ℕ)) (troubles : List CheckTrouble) (old : Tally) (text : List ℕ) (told : List CheckTrouble) (new : Tally)
      → AreOwed check folder used files troubles old text told new → AddsTo check old text new
  owed_step folder used files [] old text told new h = texts_added (owed_by folder used files) old text new h.0
  owed_step folder used files (t ∷ ts) old text told new h = passed_step (t ∷ ts) old text told new h

  clean_untagged : (has_texts : Bool) (count : ℕ) (t : Tally) → is_clean (if has_texts then with_untagged count t else t) ≡ is_clean t
  clean_untagged true count t = refl
  clean_untagged false count t = refl

  bare_step : (is_told has_texts : Bool) (untagged : List (List ℕ)) (old : Tally) (text : List ℕ) (new : Tally) → IsBareStep is_told check has_texts untagged old text new → AddsTo check old text new
  bare_step true has_texts untagged old text new h = bare_added (map bare_at untagged) old text new h
  bare_step false has_texts untagged old text new h = nothing_added old text new h.0 (ap is_clean h.1 ∙ clean_untagged has_texts (length untagged) old)

  module _ (s : Shelved) where
    texts_step : (folder : Option (List ℕ)) (used : List (List ℕ)) (old : Tally) (text : List ℕ) (told : List CheckTrouble) (new : Tally)
        → IsTextsStep s check folder used old text told new → AddsTo check old text new
    texts_step None used old text told new h = nothing_added old text new h.0 (ap is_clean h.2)
    texts_step (Some folder) used old text told new h = owed_step folder used h.files h.troubles old text told new h.owed

    end_step : (all is_told : Bool) (folder : Option (List ℕ)) (noted : Notes) (old : Tally) (text : List ℕ) (told : List CheckTrouble) (new : Tally)
        → IsEndBy all s check is_told folder noted old text told new → AddsTo check old text new
    end_step false is_told folder noted old text told new h = nothing_added old text new h.0 (ap is_clean h.2)
    end_step true is_told folder noted old text told new h =
        same_added old (h.owed ++ h.bare) text new new
        (both_added old h.between new h.owed h.bare (texts_step folder noted.used old h.owed told h.between h.texts) (bare_step is_told (is_some folder) noted.untagged h.between h.bare new h.files))
        h.text_is refl

    tree_checked : (m : Manner) (path : List ℕ) (old : Tally) (text : List ℕ) (told : List CheckTrouble) (new : Tally) → IsTreeChecked s check m path old text told new → AddsTo check old text new
    tree_checked m path old text told new h =
        let end = end_step (is_all m.taken) m.untagged h.folder h.noted h.between h.behind h.ends.behind new h.ends.ends in
        same_added old (h.within ++ h.behind) text new new (both_added old h.between new h.within h.behind (all_steps s m.taken h.folder h.steps) end) h.text_is refl

    pub tree_step : (m : Manner) (path : List ℕ) (old : Tally) (text : List ℕ) (told : List CheckTrouble) (new : Tally) → IsTreeStep s check m path old text told new → AddsTo check old text new
    tree_step m path old text told new (inl h) = tree_checked m path old text told new h
    tree_step m path old text told new (inr h) = nothing_added old text new h.text_is (ap is_clean h.new_is)
