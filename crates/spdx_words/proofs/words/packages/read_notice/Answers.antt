use Rattle.std.proofs.Common.{◌&&◌, refl, subst, sym, ◌∷◌, codes, map}
use Rattle.clap.specs.Matches.{found_of}
use Rattle.clap.specs.Values.{kind_of}
use Rattle.clap.specs.Walk.{rows_of}
use Rattle.spdx_words.specs.Commands as table
use Rattle.spdx_words.specs.Lines as lines
use Rattle.spdx_words.specs.Options.{given, says as said_in, text_of}
use Rattle.spdx_words.specs.Said as said
use Rattle.spdx_words.specs.Unfit as unfit
use Rattle.spdx_words.specs.declared.request.Request.TheVariants as request
use Rattle.spdx_words.proofs.Answering.{enters, lacking, of_memory, or_right, passed_on, refused, says, unfit_is}
use Rattle.spdx_words.proofs.Saying.{spdx_given}
use Rattle.spdx_words.proofs.words.packages.read_notice.Goals as goal

pub returns-in_err-notice : goal.returns-in_err-notice
returns-in_err-notice c program behind words =
    of_memory _ c.from_residual.result c.from_residual.ensures.1

pub returns-in_err-with : goal.returns-in_err-with
returns-in_err-with c program behind words =
    of_memory _ c.from_residual-in_err-with.result c.from_residual-in_err-with.ensures.1

pub returns-in_err-matches : goal.returns-in_err-matches
returns-in_err-matches c program behind words =
    let formats = c.in_ok-notice.ensures.0 in
    let forms = c.in_ok-notice.ensures.1 in
    let options = table.notice_options formats.0 forms.0 in
    let name = codes "notice" in
    let ws = map text_of c.args.words.now in
    let app = lines.of_spdx name options in
    let taken = spdx_given name options program behind in
    let e = c.in_err-matches.field-0.0 in
    passed_on ws _ e c.from_residual-in_err-matches.ensures.1
    (refused app (program ∷ name ∷ behind) name options behind taken ws words ws (unfit.notice_unfit (given options behind)) e (c.in_err-matches.ensures.err app (c.in_ok-with.ensures _ c.in_ok-notice.ensures.2) refl (enters app (program ∷ name ∷ behind) name options behind taken ws words))
    (λ fault. subst (λ ws. lines.IsRefused ws (kind_of e)) (sym words) (lines.notice program behind (kind_of e) formats forms fault)))

pub returns-in-Some : goal.returns-in-Some
returns-in-Some c program behind words =
    let formats = c.in_ok-notice.ensures.0 in
    let forms = c.in_ok-notice.ensures.1 in
    let options = table.notice_options formats.0 forms.0 in
    let name = codes "notice" in
    let ws = map text_of c.args.words.now in
    let app = lines.of_spdx name options in
    let taken = spdx_given name options program behind in
    let found = c.in_ok-matches.ensures.ok app (c.in_ok-with.ensures _ c.in_ok-notice.ensures.2) refl in
    let rows = (rows_of (found_of c.in_ok-matches.matches)) in
    let k = kind_of c.error.result in
    subst (λ ws. lines.IsRefused ws k) (sym words)
    (lines.notice program behind k formats forms (unfit_is app (program ∷ name ∷ behind) name options behind taken ws words unfit.notice_unfit k rows found (sym c.in-Some.ensures)))

pub returns-in_err-notice_request-in-Some-accepted : goal.returns-in_err-notice_request-in-Some-accepted
returns-in_err-notice_request-in-Some-accepted c program behind words =
    of_memory _ c.from_residual-in_err-notice_request-in-Some-accepted.result c.from_residual-in_err-notice_request-in-Some-accepted.ensures.1

pub returns-in-Some-accepted : goal.returns-in-Some-accepted
returns-in-Some-accepted c program behind words =
    let formats = c.in_ok-notice.ensures.0 in
    let forms = c.in_ok-notice.ensures.1 in
    let options = table.notice_options formats.0 forms.0 in
    let name = codes "notice" in
    let ws = map text_of c.args.words.now in
    let app = lines.of_spdx name options in
    let taken = spdx_given name options program behind in
    let found = c.in_ok-matches.ensures.ok app (c.in_ok-with.ensures _ c.in_ok-notice.ensures.2) refl in
    let none = c.in_ok-matches.ensures.taken app (c.in_ok-with.ensures _ c.in_ok-notice.ensures.2) refl in
    let rows = (rows_of (found_of c.in_ok-matches.matches)) in
    let r = c.in_ok-notice_request-in-Some-accepted.field-0 in
    subst (λ ws. lines.IsSaid ws (request.Notice r)) (sym words)
    (lines.notice program behind r formats forms (says app (program ∷ name ∷ behind) name options behind taken ws words unfit.notice_unfit (λ rows. said.IsNotice rows r) rows found none (sym c.in-None.ensures) (c.in_ok-notice_request-in-Some-accepted.ensures c.in-Some-accepted.ensures.some)))

pub returns : goal.returns
returns c program behind words =
    let formats = c.in_ok-notice.ensures.0 in
    let forms = c.in_ok-notice.ensures.1 in
    let options = table.notice_options formats.0 forms.0 in
    let name = codes "notice" in
    let ws = map text_of c.args.words.now in
    let app = lines.of_spdx name options in
    let taken = spdx_given name options program behind in
    let found = c.in_ok-matches.ensures.ok app (c.in_ok-with.ensures _ c.in_ok-notice.ensures.2) refl in
    let rows = (rows_of (found_of c.in_ok-matches.matches)) in
    let both = said_in rows (codes "accept") && said_in rows (codes "policy") in
    let k = kind_of c.error-in-None-accepted.result in
    subst (λ ws. lines.IsRefused ws k) (sym words)
    (lines.notice program behind k formats forms (unfit_is app (program ∷ name ∷ behind) name options behind taken ws words unfit.notice_unfit k rows found (or_right (unfit.source_unfit rows) _ (sym (or_right (unfit.texts_unfit rows) _ (sym (or_right both _ (sym (lacking _ c.in-None-accepted.ensures.none)))))))))
