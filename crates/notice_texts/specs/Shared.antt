-- Texts of files, and each of them once with all whose files have it.
use Rattle.std.specs.Prelude.{◌≡◌, ℕ, true, false, not, List, [], ◌∷◌, Contains, map, filter}
use Rattle.std.specs.List.{list_any}
use Rattle.notice_texts.specs.declared.texts.Holder.{Holder}
use Rattle.notice_texts.specs.declared.texts.OwnText.{OwnText}
use Rattle.notice_texts.specs.declared.texts.SharedText.{SharedText}
use Rattle.notice_texts.specs.Words.{is_same}

-- a package's file
pub record Held : Type 0 where
  pub name : List ℕ
  pub version : List ℕ
  pub file : List ℕ

-- a file with what it holds
pub record Own : Type 0 where
  pub holder : Held
  pub bytes : List ℕ

-- a text, and all files that have it
pub record Shared : Type 0 where
  pub bytes : List ℕ
  pub holders : List Held

abbrev pub held : Holder → Held
held h = record { name = h.name.now; version = h.version.now; file = h.file.now }

abbrev pub own : OwnText → Own
own t = record { holder = held t.holder; bytes = t.bytes.now }

abbrev pub shared_of : SharedText → Shared
shared_of s = record { bytes = s.bytes.now; holders = map held s.holders.items }

-- the files that have the text, in their order
abbrev pub holders_of : List ℕ → List Own → List Held
holders_of bytes texts = map (λ (t : Own). t.holder) (filter (λ t. is_same bytes t.bytes) texts)

-- the files before which none has the same text
abbrev pub firsts : List Own → List Own
firsts [] = []
firsts (t ∷ texts) = t ∷ filter (λ u. not (is_same t.bytes u.bytes)) (firsts texts)

-- each text as the first file has it, with all that have it
abbrev pub gathered : List Own → List Shared
gathered texts =
    map (λ (t : Own). record { bytes = t.bytes; holders = holders_of t.bytes texts }) (firsts texts)

-- ---- laws

-- each file's text is there, as it is or the same but for white space, and the file stands beside
-- it
abbrev pub StandsIn : List Shared → Own → Type 0
StandsIn found t =
    (s : Shared) × Contains found s × (is_same s.bytes t.bytes ≡ true) × Contains s.holders t.holder

abbrev pub EachStands : List Own → List Shared → Type 0
EachStands texts found = (t : Own) → Contains texts t → StandsIn found t

-- each text that is there is some file's, byte for byte, and each file beside it has it
abbrev pub IsOfFiles : List Own → Shared → Type 0
IsOfFiles texts s =
    ((t : Own) × Contains texts t × (t.bytes ≡ s.bytes))
    × ((h : Held) → Contains s.holders h →
    (t : Own) × Contains texts t × (is_same s.bytes t.bytes ≡ true) × (t.holder ≡ h))

abbrev pub NothingElse : List Own → List Shared → Type 0
NothingElse texts found = (s : Shared) → Contains found s → IsOfFiles texts s

-- no two texts are the same
abbrev pub AreApart : List Shared → Type 0
AreApart [] = Unit {0}
AreApart (s ∷ found) =
    (list_any (λ (u : Shared). is_same s.bytes u.bytes) found ≡ false) × AreApart found
