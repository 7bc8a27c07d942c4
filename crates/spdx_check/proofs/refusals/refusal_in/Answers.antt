use Rattle.std.proofs.Common.{sym, ◌∙◌, ap, subst, ℕ, List, Some}
use Rattle.spdx_lexer.specs.Code.{span_of}
use Rattle.spdx_lexer.specs.Faults.{fault_of}
use Rattle.spdx_canonical.specs.Fix.{Reads}
use Rattle.spdx_canonical.proofs.FixRead.{refused_reads}
use Rattle.spdx_check.specs.Checking.{replacements_in}
use Rattle.spdx_check.specs.Finding.{Wrong}
use Rattle.spdx_check.proofs.Findings.{accepted_there, refused_there, no_text_is}
use Rattle.spdx_check.proofs.refusals.refusal_in.Goals as goal

pub returns-in-Err : goal.returns-in-Err
returns-in-Err c =
    let check = c.args.check.now in
    ap (λ (x : Wrong). Some x) c.in_ok-no_text-in-Err.ensures ∙ sym (no_text_is check.catalogue.now (replacements_in check) check.mode c.args.bytes.now c.in-Err.ensures.cases.0)

pub returns-in-None : goal.returns-in-None
returns-in-None c =
    let check = c.args.check.now in
    let reads = rw c.in-None.is at c.in_ok-fault_in.ensures in
    sym (accepted_there check.catalogue.now (replacements_in check) check.mode c.args.bytes.now c.in-Ok.written.now c.in-Ok.ensures.cases.0 c.in-Ok.ensures.cases.1 reads)

pub returns-in_ok-refused-in-Some : goal.returns-in_ok-refused-in-Some
returns-in_ok-refused-in-Some c =
    let check = c.args.check.now in
    let error = c.in-Some.error in
    let told = rw c.in-Some.is at c.in_ok-fault_in.ensures in
    ap (λ (x : Wrong). Some x) c.in_ok-refused-in-Some.ensures
    ∙ sym (refused_there check.catalogue.now (replacements_in check) check.mode c.args.bytes.now c.in-Ok.written.now error.original.now (fault_of error.reason) (span_of error.span)
    c.in-Ok.ensures.cases.0 c.in-Ok.ensures.cases.1 told.text_is told.fault_is)

pub refused-requires : goal.refused-requires
refused-requires c =
    let check = c.args.check.now in
    let error = c.in-Some.error in
    let told = rw c.in-Some.is at c.in_ok-fault_in.ensures in
    subst (λ (text : List ℕ). Reads check.catalogue.now check.mode text → ⊥) (sym told.text_is) (refused_reads check.catalogue.now check.mode c.in-Ok.written.now told.no_tree)
