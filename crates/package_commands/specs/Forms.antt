-- What is told of the forms in which files were read without being asked.
use Rattle.std.specs.Prelude.{◌≡◌, ℕ, Bool, false, List, [], ◌∷◌, ◌++◌, Option, None, Some, String, bytes_eq, codes, filter, length, option_map, string_bytes}
use Rattle.std.specs.declared.alloc.Global.{Global}
use Rattle.std.specs.Borrow.{Bor}
use Rattle.std.specs.Fmt.{decimal}
use Rattle.std.specs.List.{AllZip, filter_map}
use Rattle.std.specs.Option.{option_map_or}
use Rattle.owed_texts.specs.Held.{each_first, with_name}
use Rattle.package_files.specs.declared.listed.Listed.{Listed}
use Rattle.package_sources.specs.declared.form.Form.{Form}
use Rattle.package_sources.specs.declared.form.Form.TheVariants as form
use Rattle.spdx_troubles.specs.declared.trouble.Trouble.{Trouble}
use Rattle.spdx_troubles.specs.declared.trouble.Trouble.TheVariants as trouble

-- the form as `--from` has it
abbrev pub form_word : Form → List ℕ
form_word form.Lines = codes "lines"
form_word (form.Tsv header) = codes "tsv"
form_word (form.Csv header) = codes "csv"
form_word form.Verdicts = codes "verdicts"
form_word form.Cargo = codes "cargo"
form_word form.Npm = codes "npm"
form_word form.Composer = codes "composer"
form_word form.Pip = codes "pip"
form_word form.CycloneDx = codes "cyclonedx"
form_word form.Spdx = codes "spdx"
form_word form.SpdxThree = codes "spdx-3"
form_word form.LicenseChecker = codes "license-checker"
form_word form.Pnpm = codes "pnpm"
form_word form.Metadata = codes "metadata"

abbrev pub word_of : Listed → Option (List ℕ)
word_of f = option_map form_word f.guessed

-- the words of all forms that were guessed
abbrev pub words_in : List Listed → List (List ℕ)
words_in files = filter_map word_of files

abbrev pub is_guessed : List ℕ → Listed → Bool
is_guessed word f = option_map_or (λ x. bytes_eq (form_word x) word) f.guessed false

abbrev pub guessed_as : List Listed → List ℕ → List Listed
guessed_as files word = filter (is_guessed word) files

abbrev pub count_text : ℕ → List ℕ
count_text count = decimal count ++ codes " files"

-- the file, where it is one, else how many there are
abbrev pub which : List Listed → List ℕ
which (f ∷ []) = string_bytes f.path
which files = count_text (length files)

-- it is told which files were read in the form of this word
pub data IsFormTold (files : List Listed) (word : List ℕ) : Trouble → Type 0 where
  guessed : {name : String Global} {told : Bor (List ℕ)} →
      string_bytes name ≡ which (guessed_as files word) → told.now ≡ word →
      IsFormTold files word (trouble.Guessed name told)

-- that is told of each of these words
abbrev pub AreWordsTold : List Listed → List (List ℕ) → List Trouble → Type 0
AreWordsTold files words told = AllZip (IsFormTold files) words told

-- of each form that was guessed, once
abbrev pub AreFormsTold : List Listed → List Trouble → Type 0
AreFormsTold files told = AreWordsTold files (each_first (words_in files)) told

-- ---- the parts of it, which only private clauses cite

abbrev pub listed_in : Bor Listed → Listed
listed_in f = f.now

abbrev pub with_form : List (List ℕ) → Option Form → List (List ℕ)
with_form words None = words
with_form words (Some x) = with_name words (form_word x)
