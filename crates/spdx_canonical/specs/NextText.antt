-- The text so far, where the name of the licence that was read last is not written yet: the next
-- word decides it.
use Rattle.std.specs.Prelude.{ℕ, Bool, true, false, not, List, [], ◌++◌, Option, Some, None, if◌then◌else◌, codes}
use Rattle.spdx_requirement.specs.Rows.{LicenseRow}
use Rattle.spdx_requirement.specs.Flags.{is_gnu}
use Rattle.spdx_lexer.specs.Words.{Word, Spdx, Plus}
use Rattle.spdx_canonical.specs.Canonical.{gnu_name, word_text}

-- a `+` behind the name of a licence that is no GNU licence
abbrev pub marked_name : Bool → List ℕ → List ℕ
marked_name true name = name ++ codes "+"
marked_name false name = name

-- a licence, which a `+` follows or not
abbrev pub license_and_plus : Bool → LicenseRow → List ℕ
license_and_plus plus r = if is_gnu r.flags then gnu_name plus r.name else marked_name plus r.name

abbrev pub is_plus_word : Word → Bool
is_plus_word Plus = true
is_plus_word _ = false

-- a `+` that does not stand directly behind a listed licence
abbrev pub is_misplaced : Bool → Word → Bool
is_misplaced behind_spdx Plus = not behind_spdx
is_misplaced behind_spdx _ = false

-- what the next word makes of the licence before it
abbrev pub decided_text : Option LicenseRow → Bool → List ℕ
decided_text None plus = []
decided_text (Some r) plus = license_and_plus plus r

-- what is written for the word itself, of which a licence waits and a `+` belongs to the licence
-- before
abbrev pub own_text : Word → List ℕ
own_text (Spdx r) = []
own_text Plus = []
own_text w = word_text w

-- the licence that waits behind the word
abbrev pub waiting : Word → Option LicenseRow
waiting (Spdx r) = Some r
waiting _ = None

-- what is written at the word
abbrev pub next_text : Option LicenseRow → Word → List ℕ
next_text before w = decided_text before (is_plus_word w) ++ own_text w

-- and what is written at the next word or the end
abbrev pub heard_text : Option LicenseRow → Option Word → List ℕ
heard_text before (Some w) = next_text before w
heard_text before None = decided_text before false
