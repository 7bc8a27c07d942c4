-- What is found in the bytes of an expression.
use Rattle.std.specs.Prelude.{◌≡◌, ℕ, Bool, true, false, List, [], ◌∷◌, ◌++◌, length, min, slice_range, bytes_eq, find, option_map, Option, None, Some, codes, IsUtf8, if◌then◌else◌}
use Rattle.std.specs.Str.Lossy.{utf8_valid_len, utf8_lossy}
use Rattle.spdx_requirement.specs.Rows.{Rows}
use Rattle.spdx_lexer.specs.declared.token.ParseMode.{ParseMode}
use Rattle.spdx_lexer.specs.Words.{Fault, UnknownException, UnknownLicense, UnknownTerm, InvalidCharacters, DeprecatedLicenseId, Span, span}
use Rattle.spdx_lexer.specs.Faults.{fault_text}
use Rattle.spdx_parser.specs.Faults.{IsFaultOf}
use Rattle.spdx_canonical.specs.Fix.{Reads, IsFixOf}
use Rattle.spdx_hints.specs.declared.rule.Rule.{Rule}
use Rattle.spdx_hints.specs.Rules.{rule_word}
use Rattle.spdx_hints.specs.Hints.{hints_of, rule_of}
use Rattle.spdx_hints.specs.Phrase.{phrase_of}
use Rattle.spdx_list.specs.Files.{ReplacementRow}
use Rattle.finding_forms.specs.Finding.{Aid, nothing, write, names, note}

-- what is wrong: the text that is shown, where the fault stands in it, why it is one, and what
-- helps
pub record Wrong : Type 0 where
  pub shown : List ℕ
  pub place : Span
  pub reason : List ℕ
  pub aid : Aid

-- the words at the fault name no licence that may stand there; at other faults a licence's name
-- doesn't help
abbrev pub wants_name : Fault → Bool
wants_name UnknownTerm = true
wants_name UnknownLicense = true
wants_name InvalidCharacters = true
wants_name DeprecatedLicenseId = true
wants_name fault = false

-- the text of the fault; a place behind the text counts as its end
abbrev pub name_at : List ℕ → Span → List ℕ
name_at text s = let end = min s.to (length text) in slice_range text (min s.from end) end

-- what the first row of that name says to write in its place
abbrev pub replacement_in : List ReplacementRow → List ℕ → Option (List ℕ)
replacement_in replacements name =
    option_map (λ (r : ReplacementRow). r.write)
    (find (λ (r : ReplacementRow). bytes_eq r.name name) replacements)

-- a deprecated name may have a replacement; no other fault has
abbrev pub replacement_of : List ReplacementRow → List ℕ → Fault → Span → Option (List ℕ)
replacement_of replacements text DeprecatedLicenseId s =
    replacement_in replacements (name_at text s)
replacement_of replacements text fault s = None

-- the list hasn't the name at the fault
abbrev pub is_unlisted : Fault → Bool
is_unlisted UnknownTerm = true
is_unlisted UnknownLicense = true
is_unlisted UnknownException = true
is_unlisted fault = false

-- which list that is, and by which option another is taken
abbrev pub unlisted_words : Rows → List ℕ
unlisted_words c = codes "not in the list " ++ (c.version ++ codes ", see --list")

-- what helps where no name is close
abbrev pub without_names : Rows → Fault → Aid
without_names c fault = if is_unlisted fault then note (unlisted_words c) else nothing

-- the names that this rule gave; the other help where no rule gave any
abbrev pub hinted : Aid → List (List ℕ) → Option Rule → Aid
hinted other listed None = other
hinted other listed (Some rule) = names listed (rule_word rule)

-- the licences that the phrase may mean
abbrev pub hints_for : Rows → Fault → List ℕ → Aid
hints_for c fault phrase = hinted (without_names c fault) (hints_of c phrase) (rule_of c phrase)

-- those that the phrase at the fault may mean, where a licence is wanted
abbrev pub hint_by : Rows → List ℕ → Fault → Span → Aid
hint_by c text fault s =
    if wants_name fault then hints_for c fault (phrase_of text s.from) else without_names c fault

-- the replacement, where there is one, which isn't a hint but replaces the name; else hints
abbrev pub name_by : Rows → List ℕ → Fault → Span → Option (List ℕ) → Aid
name_by c text fault s (Some replacement) = names (replacement ∷ []) (codes "replaced-by")
name_by c text fault s None = hint_by c text fault s

-- the fix, where there is one; else names
abbrev pub aid_by : Rows → List ReplacementRow → List ℕ → Fault → Span → Option (List ℕ) → Aid
aid_by c replacements text fault s (Some fix) = write fix
aid_by c replacements text fault s None =
    name_by c text fault s (replacement_of replacements text fault s)

-- a text with a fault, which may have a fix
abbrev pub wrong_in : Rows → List ReplacementRow → List ℕ → Fault → Span → Option (List ℕ) → Wrong
wrong_in c replacements text fault s fix =
    record {
      shown = text;
      place = s;
      reason = fault_text fault;
      aid = aid_by c replacements text fault s fix;
    }

-- of bytes that are no text U+FFFD is shown for each invalid sequence, and the first one, of three
-- bytes, is the fault
abbrev pub no_text : List ℕ → Wrong
no_text bytes =
    let valid = utf8_valid_len bytes in
    record {
      shown = utf8_lossy bytes;
      place = span valid 3;
      reason = codes "not UTF-8";
      aid = nothing;
    }

-- nothing is wrong with a text that a reader in the mode accepts; else its fault is, or that the
-- bytes are no text
pub data IsFinding (c : Rows) (replacements : List ReplacementRow) (m : ParseMode)
    (bytes : List ℕ) : Option Wrong → Type 0 where
  is_accepted : IsUtf8 bytes → Reads c m bytes → IsFinding c replacements m bytes None
  is_refused : (fault : Fault) (s : Span) (fix : Option (List ℕ)) → IsUtf8 bytes →
      IsFaultOf c m bytes fault s → IsFixOf c bytes fix →
      IsFinding c replacements m bytes (Some (wrong_in c replacements bytes fault s fix))
  is_no_text : ¬ (IsUtf8 bytes) → IsFinding c replacements m bytes (Some (no_text bytes))

-- this is the finding, and there is no other
pub record IsTheFinding (c : Rows) (replacements : List ReplacementRow) (m : ParseMode)
    (bytes : List ℕ) (found : Option Wrong) : Type 0 where
  pub given : IsFinding c replacements m bytes found
  pub only : (other : Option Wrong) → IsFinding c replacements m bytes other → other ≡ found
