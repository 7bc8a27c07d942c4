-- The rules by which a licence may be meant by a phrase.
use Rattle.std.specs.Prelude.{ℕ, ◌-◌, ◌*◌, Bool, not, ◌||◌, ◌&&◌, nat_eq, nat_le, min, max, List, [], length, filter, bytes_eq, codes}
use Rattle.std.specs.List.{list_any}
use Rattle.std.specs.Str.{str_to_ascii_lowercase}
use Rattle.strsim.specs.Edits.{levenshtein_row}
use Rattle.spdx_requirement.specs.Rows.{LicenseRow, ImpreciseRow}
use Rattle.spdx_requirement.specs.Flags.{is_deprecated, is_osi_approved, is_fsf_free_libre}
use Rattle.spdx_requirement.specs.Versions.{base}
use Rattle.spdx_hints.specs.Words.{word, has_word, has_words, has_numbers, keeps_telling}
use Rattle.spdx_hints.specs.declared.rule.Rule.{Rule}
use Rattle.spdx_hints.specs.declared.rule.Rule.TheVariants.{SameWords, SameTitle, SameFamily, OtherVersion, OneEdit, TwoEdits}

-- how a rule is called where its hints are told
abbrev pub rule_word : Rule → List ℕ
rule_word SameWords = codes "same-words"
rule_word SameTitle = codes "same-title"
rule_word SameFamily = codes "same-family"
rule_word OtherVersion = codes "other-version"
rule_word OneEdit = codes "one-edit"
rule_word TwoEdits = codes "two-edits"

-- each has the other's numbers
abbrev pub same_numbers : List ℕ → List ℕ → Bool
same_numbers a b = has_numbers a b && has_numbers b a

-- each has the other's words
abbrev pub same_words : List ℕ → List ℕ → Bool
same_words a b = has_words a b && has_words b a

-- each has the other's words and numbers
abbrev pub alike : List ℕ → List ℕ → Bool
alike a b = same_words a b && same_numbers a b

-- the imprecise names of the phrase's words and numbers
abbrev pub spellings : List ImpreciseRow → List ℕ → List ImpreciseRow
spellings names phrase = filter (λ (m : ImpreciseRow). alike phrase m.prefix) names

-- one of them means the licence
abbrev pub is_spelled : List ImpreciseRow → LicenseRow → Bool
is_spelled found r = list_any (λ (m : ImpreciseRow). bytes_eq m.name r.name) found

-- the licence's name, its full name or an imprecise name that means it has the phrase's words and
-- numbers
abbrev pub has_same_words : List ImpreciseRow → List ℕ → LicenseRow → Bool
has_same_words found phrase r =
    alike phrase r.name || (alike phrase r.full_name || is_spelled found r)

-- a text of the phrase's words that has the phrase's numbers, and others if it likes
abbrev pub is_titled : List ℕ → List ℕ → Bool
is_titled phrase text = same_words phrase text && has_numbers text phrase

-- the licence's name or full name is one
abbrev pub has_same_title : List ℕ → LicenseRow → Bool
has_same_title phrase r = is_titled phrase r.name || is_titled phrase r.full_name

-- the word of a licence's family, which stands before its name's first hyphen
abbrev pub family_word : LicenseRow → List ℕ
family_word r = word (base r.name)

-- the Open Source Initiative or the Free Software Foundation recognises it
abbrev pub is_recognised : LicenseRow → Bool
is_recognised r = is_osi_approved r.flags || is_fsf_free_libre r.flags

-- the licence is recognised; the family's word, of three letters or more, is one of the phrase's;
-- the phrase's numbers are the name's, and its telling words are those of the name or the full name
abbrev pub has_same_family : List ℕ → LicenseRow → Bool
has_same_family phrase r =
    is_recognised r && (nat_le 3 (length (family_word r)) && (has_word phrase (family_word r)
    && (has_numbers r.name phrase && keeps_telling r.name r.full_name phrase)))

-- the phrase has a word, and the licence's name or full name has its words, whatever the numbers
abbrev pub has_other_numbers : List ℕ → LicenseRow → Bool
has_other_numbers phrase r =
    not (has_words [] phrase) && (same_words phrase r.name || same_words phrase r.full_name)

-- how many bytes must be put in, taken out or written over, the case of ASCII letters aside
abbrev pub edits : List ℕ → List ℕ → ℕ
edits a b =
    levenshtein_row nat_eq (str_to_ascii_lowercase a) (str_to_ascii_lowercase b)
    (length (str_to_ascii_lowercase b))

-- no more than n edits from a name of at least five times as many bytes, which has the same numbers
abbrev pub is_near : ℕ → List ℕ → List ℕ → Bool
is_near n phrase name =
    nat_le (n * 5) (length name) &&
    (nat_le (max (length phrase) (length name) - min (length phrase) (length name)) n
    && (same_numbers phrase name && nat_le (edits phrase name) n))

-- what the rule says of a licence
abbrev pub holds : Rule → List ImpreciseRow → List ℕ → LicenseRow → Bool
holds SameWords found phrase r = has_same_words found phrase r
holds SameTitle found phrase r = has_same_title phrase r
holds SameFamily found phrase r = has_same_family phrase r
holds OtherVersion found phrase r = has_other_numbers phrase r
holds OneEdit found phrase r = is_near 1 phrase r.name
holds TwoEdits found phrase r = is_near 2 phrase r.name

-- the licence may be hinted at
abbrev pub may_be_meant : Rule → List ImpreciseRow → List ℕ → LicenseRow → Bool
may_be_meant rule found phrase r = not (is_deprecated r.flags) && holds rule found phrase r
