use Rattle.std.proofs.Common.{ℕ, List, ◌++◌, refl, ◌∙◌, ap}
use Rattle.spdx_lexer.specs.Code.{span_of}
use Rattle.spdx_lexer.specs.Faults.{fault_of}
use Rattle.spdx_lines.specs.Verdict.{parse_mode}
use Rattle.spdx_lines.proofs.Answered.{no_text_so, accepts_so, refuses_so}
use Rattle.spdx_lines.proofs.answer.begin_answer.Goals as goal

pub returns-in_default : goal.returns-in_default
returns-in_default c =
    no_text_so c.args.catalogue.now c.args.mode c.args.line.now c.args.text.now.items c.extend_from_slice.new.self.items c.in_default.ensures.cases.0 c.in_ok-extend_from_slice.ensures.items

pub returns-in_ok-put_column-in-Ok-read_line : goal.returns-in_ok-put_column-in-Ok-read_line
returns-in_ok-put_column-in-Ok-read_line c =
    let read = c.in-Ok-read_line.ensures.ok in
    let first = c.extend_from_slice-in-Ok-read_line.new.self.items in
    accepts_so c.args.catalogue.now c.args.mode c.args.line.now c.in-Ok.line.now (parse_mode c.args.mode) refl c.in-Ok.ensures.cases.0 c.in-Ok.ensures.cases.1 _ (read.read, read.reads, read.meant) read.rows_are
    c.args.text.now.items first c.put_column.new.text.items c.in_ok-extend_from_slice-in-Ok-read_line.ensures.items
    (λ x is. c.in_ok-put_column-in-Ok-read_line.ensures ∙ ap (λ (z : List ℕ). first ++ z) (c.in-Ok-read_line.ensures.column x is))

pub returns-in_ok-put_refused-in-Err-Refused : goal.returns-in_ok-put_refused-in-Err-Refused
returns-in_ok-put_refused-in-Err-Refused c =
    let h = rw c.in-Err-Refused.field-0-is at c.in-Err-Refused.ensures.err in
    let k = rw c.in-Err-Refused.field-0-is at c.in_ok-put_refused-in-Err-Refused.ensures in
    refuses_so c.args.catalogue.now c.args.mode c.args.line.now c.in-Ok.line.now (parse_mode c.args.mode) refl c.in-Ok.ensures.cases.0 c.in-Ok.ensures.cases.1 (fault_of c.in-Err-Refused.error.reason) (span_of c.in-Err-Refused.error.span) h.fault_is
    c.args.text.now.items c.put_refused.new.text.items k
