use Rattle.std.proofs.Common.{refl, subst, sym, ◌∷◌, codes, map}
use Rattle.clap.specs.Matches.{found_of}
use Rattle.clap.specs.Values.{kind_of}
use Rattle.clap.specs.Walk.{rows_of}
use Rattle.spdx_words.specs.Commands as table
use Rattle.spdx_words.specs.Lines as lines
use Rattle.spdx_words.specs.Options.{given, text_of}
use Rattle.spdx_words.specs.Said as said
use Rattle.spdx_words.specs.declared.request.Request.TheVariants as request
use Rattle.spdx_words.proofs.Answering.{enters, of_memory, passed_on, refused, says}
use Rattle.spdx_words.proofs.Saying.{spdx_given}
use Rattle.spdx_words.proofs.words.expression.read_simplify.Goals as goal

pub returns-in_err-simplify : goal.returns-in_err-simplify
returns-in_err-simplify c program behind words =
    of_memory _ c.from_residual.result c.from_residual.ensures.1

pub returns-in_err-with : goal.returns-in_err-with
returns-in_err-with c program behind words =
    of_memory _ c.from_residual-in_err-with.result c.from_residual-in_err-with.ensures.1

pub returns-in_err-matches : goal.returns-in_err-matches
returns-in_err-matches c program behind words =
    let options = table.simplify_options in
    let name = codes "simplify" in
    let ws = map text_of c.args.words.now in
    let app = lines.of_spdx name options in
    let taken = spdx_given name options program behind in
    let e = c.in_err-matches.field-0.0 in
    passed_on ws _ e c.from_residual-in_err-matches.ensures.1
    (refused app (program ∷ name ∷ behind) name options behind taken ws words ws (lines.never (given options behind)) e (c.in_err-matches.ensures.err app (c.in_ok-with.ensures _ c.in_ok-simplify.ensures) refl (enters app (program ∷ name ∷ behind) name options behind taken ws words))
    (λ fault. subst (λ ws. lines.IsRefused ws (kind_of e)) (sym words) (lines.simplify program behind (kind_of e) fault)))

pub returns-in_err-simplify_request : goal.returns-in_err-simplify_request
returns-in_err-simplify_request c program behind words =
    of_memory _ c.from_residual-in_err-simplify_request.result c.from_residual-in_err-simplify_request.ensures.1

pub returns : goal.returns
returns c program behind words =
    let options = table.simplify_options in
    let name = codes "simplify" in
    let ws = map text_of c.args.words.now in
    let app = lines.of_spdx name options in
    let taken = spdx_given name options program behind in
    let found = c.in_ok-matches.ensures.ok app (c.in_ok-with.ensures _ c.in_ok-simplify.ensures) refl in
    let none = c.in_ok-matches.ensures.taken app (c.in_ok-with.ensures _ c.in_ok-simplify.ensures) refl in
    let r = c.in_ok-simplify_request.field-0 in
    subst (λ ws. lines.IsSaid ws (request.Simplify r)) (sym words)
    (lines.simplify program behind r (says app (program ∷ name ∷ behind) name options behind taken ws words lines.never (λ rows. said.IsSimplify rows r) (rows_of (found_of c.in_ok-matches.matches)) found none refl c.in_ok-simplify_request.ensures))
