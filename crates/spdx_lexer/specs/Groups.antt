-- The rules of a run in groups, as the code tries them.
use Rattle.std.specs.Prelude.{ℕ, List, [], ◌∷◌, Option, Some, None, Result, option_map, codes, if◌then◌else◌}
use Rattle.spdx_requirement.specs.Rows.{Rows, LicenseRow}
use Rattle.spdx_catalogue.specs.LookUps.{listed, listed_exception, listed_caseless, listed_exception_caseless, imprecise_license}
use Rattle.spdx_lexer.specs.declared.token.ParseMode.{ParseMode}
use Rattle.spdx_lexer.specs.Words.{Word, Spdx, LicenseRef, Exception, AdditionRef, Unknown, Fault}
use Rattle.spdx_lexer.specs.Text.{run_at}
use Rattle.spdx_lexer.specs.Lexeme.{first_of, sign, whole, operator, reference, document_reference, lexeme_of}

-- a word, and how many bytes it takes
abbrev pub Found : Type 0
Found = Option (Word × ℕ)

-- an operator, the name of a licence, the name of an exception
abbrev pub exact : Rows → List ℕ → Found
exact c run = first_of (
    whole run (operator run)
    ∷ whole run (option_map Spdx (listed c.licenses run))
    ∷ whole run (option_map Exception (listed_exception c.exceptions run))
    ∷ [])

-- a reference to a licence, with a document or without
abbrev pub license_reference : List ℕ → Found
license_reference run =
    first_of (document_reference (codes "LicenseRef-") LicenseRef run ∷
    reference (codes "LicenseRef-") LicenseRef run ∷ [])

-- a reference to an addition, with a document or without
abbrev pub addition_reference : List ℕ → Found
addition_reference run =
    first_of (document_reference (codes "AdditionRef-") AdditionRef run ∷
    reference (codes "AdditionRef-") AdditionRef run ∷ [])

-- a reference at the front of the run
abbrev pub referred : List ℕ → Found
referred run = first_of (license_reference run ∷ addition_reference run ∷ [])

-- a name in another case, of a licence or else of an exception
abbrev pub caseless : Rows → ParseMode → List ℕ → Found
caseless c m run = if m.allow_caseless_ids then first_of (
    whole run (option_map Spdx (listed_caseless c.licenses run))
    ∷ whole run (option_map Exception (listed_exception_caseless c.exceptions run))
    ∷ []) else None

-- all of these, in their order
abbrev pub by_run : Rows → ParseMode → List ℕ → Found
by_run c m run = first_of (exact c run ∷ referred run ∷ caseless c m run ∷ [])

-- any run at all
abbrev pub unknown : ParseMode → List ℕ → Found
unknown m run = if m.allow_unknown then whole run (Some (Unknown run)) else None

-- an imprecise spelling at the front of the text, which may go on behind the run or end within it
abbrev pub imprecise : Rows → ParseMode → List ℕ → Found
imprecise c m text =
    if m.allow_imprecise_license_names
    then option_map (λ (f : LicenseRow × ℕ). (Spdx f.0, f.1)) (imprecise_license c text) else None

-- by the run, else by an imprecise spelling, else as an unknown word
abbrev pub grouped : Rows → ParseMode → List ℕ → List ℕ → Found
grouped c m text run = first_of (by_run c m run ∷ imprecise c m text ∷ unknown m run ∷ [])

-- the word at the front of the text, by the groups
abbrev pub grouped_lexeme : Rows → ParseMode → List ℕ → Result (Word × ℕ) (Fault × ℕ)
grouped_lexeme c m text =
    lexeme_of text (run_at text) (sign m text) (grouped c m text (run_at text))
