-- Why it isn't told what texts mean.
use Rattle.std.specs.Prelude.{◌≡◌, ℕ, Bool, List, ◌++◌, codes, decimal, string_bytes}
use Rattle.spdx_requirement.specs.Rows.{Rows}
use Rattle.spdx_lexer.specs.Faults.{fault_of, fault_text}
use Rattle.spdx_meaning.specs.Faults.{too_many_text}
use Rattle.spdx_meaning.specs.declared.reading.Unmeant.{Unmeant}
use Rattle.spdx_meaning.specs.declared.reading.Unmeant.TheVariants.{Unread, TooMany}
use Rattle.spdx_meaning.specs.Reading.{IsUnmeant}
use Rattle.meaning_program.specs.declared.trouble.Unsaid.{Unsaid}
use Rattle.meaning_program.specs.Reading.{mode_by, read_as}

-- the fault with its place, or how many sets are made
unfoldable pub why_text : Unmeant → List ℕ
why_text (Unread error) =
    fault_text (fault_of error.reason) ++
    (codes ", in bytes " ++ (decimal error.span.start ++ (codes " to " ++ decimal error.span.end)))
why_text (TooMany many) = too_many_text many

pub record IsToldAs (text : List ℕ) (why : Unmeant) (u : Unsaid) : Type 0 where
  pub text_is : string_bytes u.text ≡ text
  pub why_is : string_bytes u.why ≡ why_text why

-- as it is read, the text has no meaning that is told
abbrev pub IsUnsaid : Rows → Bool → List ℕ → Unsaid → Type 0
IsUnsaid c is_lax text u =
    (why : Unmeant) × IsUnmeant c (mode_by is_lax) (read_as c is_lax text) why
    × IsToldAs (read_as c is_lax text) why u
