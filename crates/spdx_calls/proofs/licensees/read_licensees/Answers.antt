use Rattle.std.proofs.Common.{◌≡◌, ℕ, List, [], ◌∷◌, ◌++◌, rules, ◌∙◌, ap, subst}
use Rattle.line_engine.specs.Lines.{lines_of}
use Rattle.spdx_calls.specs.Faults.{IsFaultOfLine, IsLicenseesFault}
use Rattle.spdx_calls.proofs.Named.{one_more, lines_of-last, named-more, first_fault, handed_on}
use Rattle.spdx_calls.proofs.licensees.read_licensees.Goals as goal

pub loop-line-preserved : goal.loop-line-preserved
loop-line-preserved c =
    let (done, lines, named) = c.loop-line.invariant in
    let more = one_more (lines_of c.args.names.now) done c.loop-line.rest.now c.in-Some.line.now c.in-Some.behind.now lines c.in-Some.ensures.some.0 c.in-Some.ensures.some.1 in
    (done ++ c.in-Some.line.now ∷ [], more.1, rw c.in_ok-push.ensures.items (named-more c.args.catalogue.now done c.loop-line.licensees.items c.in-Some.line.now c.in_ok-licensee.licensee named c.in_ok-licensee.ensures.ok))

pub returns-in_err-licensee-clause-err : goal.returns-in_err-licensee-clause-err
returns-in_err-licensee-clause-err c =
    let (done, lines, named) = c.loop-line.invariant in
    let more = one_more (lines_of c.args.names.now) done c.loop-line.rest.now c.in-Some.line.now c.in-Some.behind.now lines c.in-Some.ensures.some.0 c.in-Some.ensures.some.1 in
    handed_on (IsLicenseesFault c.args.catalogue.now (lines_of c.args.names.now)) c.in_err-licensee.field-0.0
    (first_fault c.args.catalogue.now (lines_of c.args.names.now) done c.in-Some.line.now (lines_of c.in-Some.behind.now) c.loop-line.licensees.items c.in_err-licensee.field-0.0 more.0 named
    (subst (λ (n : ℕ). IsFaultOfLine c.args.catalogue.now c.in-Some.line.now n c.in_err-licensee.field-0.0) (search rules) c.in_err-licensee.ensures.err))
    c.from_residual.result c.from_residual.ensures.1

pub returns-in_err-last-clause-err : goal.returns-in_err-last-clause-err
returns-in_err-last-clause-err c =
    let (done, lines, named) = c.loop-line.invariant in
    let last : lines_of c.loop-line.rest.now ≡ c.loop-line.rest.now ∷ [] = lines_of-last c.loop-line.rest.now (c.in_default.ensures.none search) (search rules) in
    handed_on (IsLicenseesFault c.args.catalogue.now (lines_of c.args.names.now)) c.in_err-last.field-0.0
    (first_fault c.args.catalogue.now (lines_of c.args.names.now) done c.loop-line.rest.now [] c.loop-line.licensees.items c.in_err-last.field-0.0 (lines ∙ ap (λ (ls : List (List ℕ)). done ++ ls) last) named
    (subst (λ (n : ℕ). IsFaultOfLine c.args.catalogue.now c.loop-line.rest.now n c.in_err-last.field-0.0) (search rules) c.in_err-last.ensures.err))
    c.from_residual-in_err-last.result c.from_residual-in_err-last.ensures.1

pub returns-clause-ok : goal.returns-clause-ok
returns-clause-ok c =
    let (done, lines, named) = c.loop-line.invariant in
    let last : lines_of c.loop-line.rest.now ≡ c.loop-line.rest.now ∷ [] = lines_of-last c.loop-line.rest.now (c.in_default.ensures.none search) (search rules) in
    rw (lines ∙ ap (λ (ls : List (List ℕ)). done ++ ls) last) (rw c.in_ok-push-2.ensures.items (named-more c.args.catalogue.now done c.loop-line.licensees.items c.loop-line.rest.now c.in_ok-last.last named c.in_ok-last.ensures.ok))
