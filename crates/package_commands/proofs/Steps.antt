-- One file, word or package list more.
use Rattle.std.proofs.Common.{◌≡◌, ◌∙◌, refl, sym, ap, ℕ, ◌+◌, ◌<◌, List, [], ◌∷◌, ◌++◌, append-nil, get_or, length, map, string_bytes, subst, take}
use Rattle.std.specs.declared.alloc.Global.{Global}
use Rattle.std.specs.Prelude.{Option, None, Some, String, filter}
use Rattle.std.specs.Borrow.{Bor}
use Rattle.std.specs.List.{filter_map}
use Rattle.std.proofs.lemmas.List.{map-append, take_more}
use Rattle.std.proofs.lemmas.List.Elements.{filter-append, filter_map-append}
use Rattle.check_files.specs.Told.{Account, Hears, Tells}
use Rattle.check_files.proofs.Doing.{hears_nil, hears_trans}
use Rattle.owed_texts.specs.Held.{each_first, name_in}
use Rattle.owed_texts.proofs.Firsts.{first_more}
use Rattle.package_items.specs.Rows.{PackageRow}
use Rattle.package_files.specs.declared.listed.Listed.{Listed}
use Rattle.package_files.specs.declared.listed.Source.{Source}
use Rattle.package_sources.specs.declared.form.Form.{Form}
use Rattle.package_commands.specs.Forms.{AreWordsTold, IsFormTold, form_word, guessed, guessed_as, is_guessed, which, with_form, word_of, words_in}
use Rattle.package_commands.specs.Shared.{documents_in, is_document, rows_of}
use Rattle.spdx_commands.proofs.Steps.{zip_push}
use Rattle.spdx_troubles.specs.declared.trouble.Trouble.{Trouble}
use Rattle.spdx_troubles.specs.declared.trouble.Trouble.TheVariants as trouble

taken_more : (files : List Listed) (i : ℕ) (d f : Listed) → i < length files → f ≡ get_or files i d → take (i + 1) files ≡ take i files ++ f ∷ []
taken_more files i d f lt at = take_more files i d lt ∙ ap (λ (x : Listed). take i files ++ x ∷ []) (sym at)

-- ---- words of forms

form_more : (words : List (List ℕ)) (f : Listed) (g : Option Form) → f.guessed ≡ g → with_form (each_first words) g ≡ each_first (words ++ filter_map word_of (f ∷ []))
form_more words f None e = rw (e) (ap each_first (sym (append-nil words)))
form_more words f (Some x) e = rw (e) (sym (first_more words (form_word x)))

pub words_more : (files : List Listed) (i : ℕ) (d f : Listed) (old new : List (List ℕ)) → old ≡ each_first (words_in (take i files)) → i < length files
    → f ≡ get_or files i d → new ≡ with_form old f.guessed → new ≡ each_first (words_in (take (i + 1) files))
words_more files i d f old new before lt at more =
    more
    ∙ ap (λ (z : List (List ℕ)). with_form z f.guessed) before
    ∙ form_more (words_in (take i files)) f f.guessed refl
    ∙ ap each_first (sym (ap (filter_map word_of) (taken_more files i d f lt at) ∙ filter_map-append word_of (take i files) (f ∷ [])))

-- ---- files of a form

pub guessed_more : (files : List Listed) (word : List ℕ) (i : ℕ) (d f : Listed) (old new : List Listed) → old ≡ guessed_as (take i files) word → i < length files
    → f ≡ get_or files i d → new ≡ old ++ guessed_as (f ∷ []) word → new ≡ guessed_as (take (i + 1) files) word
guessed_more files word i d f old new before lt at more =
    more
    ∙ ap (λ (z : List Listed). z ++ guessed_as (f ∷ []) word) before
    ∙ sym (ap (filter (is_guessed word)) (taken_more files i d f lt at) ∙ filter-append (is_guessed word) (take i files) (f ∷ []))

-- ---- words that are told

pub none_told : (files : List Listed) (heard : Account Trouble) → Tells heard heard (AreWordsTold files [])
none_told files heard = record { told = []; tells = hears_nil heard; is = tt }

pub word_told : (files : List Listed) (h k l : Account Trouble) (words : List (Bor (List ℕ))) (word : Bor (List ℕ)) (name : String Global)
    → Tells h k (AreWordsTold files (map name_in words)) → string_bytes name ≡ which (guessed_as files word.now) → Hears k l (trouble.Guessed name word ∷ [])
    → Tells h l (AreWordsTold files (map name_in (words ++ word ∷ [])))
word_told files h k l words word name p is tells = record {
  told = p.told ++ trouble.Guessed name word ∷ [];
  tells = hears_trans h k l p.told (trouble.Guessed name word ∷ []) p.tells tells;
  is =
      subst (λ (ws : List (List ℕ)). AreWordsTold files ws (p.told ++ trouble.Guessed name word ∷ [])) (sym (map-append name_in words (word ∷ [])))
      (zip_push (IsFormTold files) (map name_in words) p.told word.now (trouble.Guessed name word) p.is (guessed is refl));
}

-- ---- documents

pub documents_more : (how : Source) (files : List Listed) (i : ℕ) (d f : Listed) (old new : List (List PackageRow)) → old ≡ documents_in how (take i files) → i < length files
    → f ≡ get_or files i d → new ≡ old ++ documents_in how (f ∷ []) → new ≡ documents_in how (take (i + 1) files)
documents_more how files i d f old new before lt at more =
    let some = filter (is_document how) (take i files) in
    let one = filter (is_document how) (f ∷ []) in
    more
    ∙ ap (λ (z : List (List PackageRow)). z ++ map rows_of one) before
    ∙ sym (map-append rows_of some one)
    ∙ ap (map rows_of) (sym (ap (filter (is_document how)) (taken_more files i d f lt at) ∙ filter-append (is_document how) (take i files) (f ∷ [])))
