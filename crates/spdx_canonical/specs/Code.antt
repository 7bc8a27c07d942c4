-- What a contract sees of a refusal.
use Rattle.spdx_lexer.specs.declared.error.ParseError.{ParseError}
use Rattle.spdx_lexer.specs.Words.{Fault, Span}
use Rattle.spdx_lexer.specs.Faults.{fault_of}
use Rattle.spdx_lexer.specs.Code.{span_of}

-- the fault of an error, and where it is
abbrev pub placed_fault : ParseError → Fault × Span
placed_fault error = (fault_of error.reason, span_of error.span)
