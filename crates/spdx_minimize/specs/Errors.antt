-- The errors of all calls as one.
use Rattle.std.specs.Prelude.{ℕ, List, codes}
use Rattle.spdx_requirement.specs.declared.failure.Failure.{Failure}
use Rattle.spdx_requirement.specs.declared.failure.Failure.TheVariants as failure
use Rattle.spdx_catalogue.specs.declared.error.ReadFault.{ReadFault}
use Rattle.spdx_catalogue.specs.Faults.{read_text}
use Rattle.spdx_lexer.specs.declared.error.ParseError.{ParseError}
use Rattle.spdx_lexer.specs.Faults as lexer
use Rattle.spdx_minimize.specs.declared.minimize_error.MinimizeError.{MinimizeError}
use Rattle.spdx_minimize.specs.declared.error.Error.{Error}
use Rattle.spdx_minimize.specs.declared.error.Error.TheVariants.{Catalogue, Parse, Minimize, Memory}
use Rattle.spdx_minimize.specs.MinimizeTexts.{minimize_text}

-- the text of what was refused
abbrev pub library_text : Error → List ℕ
library_text (Catalogue fault) = read_text fault
library_text (Parse e) = lexer.error_text e
library_text (Minimize e) = minimize_text e
library_text (Memory e) = codes "out of memory"

-- a refusal in its variant, and want of memory in its own
abbrev pub error_of : {E : Type 0} → (E → Error) → Failure E → Error
error_of made (failure.Refused e) = made e
error_of made (failure.Memory e) = Memory e

-- C, P or M of what was refused; of want of memory nothing
abbrev pub ErrorBy : (ReadFault → Type 0) → (ParseError → Type 0) → (MinimizeError → Type 0) →
    Error → Type 0
ErrorBy C P M (Catalogue fault) = C fault
ErrorBy C P M (Parse e) = P e
ErrorBy C P M (Minimize e) = M e
ErrorBy C P M (Memory e) = Unit {0}

-- P of a text's fault, where nothing else is refused
abbrev pub IfParse : (ParseError → Type 0) → Error → Type 0
IfParse P e = ErrorBy (λ _. ⊥) P (λ _. ⊥) e

-- P of a text's fault, and M of a choice that is refused
abbrev pub IfParseOrMinimize : (ParseError → Type 0) → (MinimizeError → Type 0) → Error → Type 0
IfParseOrMinimize P M e = ErrorBy (λ _. ⊥) P M e
