use Rattle.std.proofs.Common.{refl, subst, sym, ◌∷◌, codes, map}
use Rattle.clap.specs.Matches.{found_of}
use Rattle.clap.specs.Values.{kind_of}
use Rattle.clap.specs.Walk.{rows_of}
use Rattle.spdx_words.specs.Commands as table
use Rattle.spdx_words.specs.Lines as lines
use Rattle.spdx_words.specs.Options.{given, text_of}
use Rattle.spdx_words.specs.Said as said
use Rattle.spdx_words.specs.Unfit as unfit
use Rattle.spdx_words.specs.declared.request.Request.TheVariants as request
use Rattle.spdx_words.proofs.Answering.{enters, having, lacking, neither, of_memory, or_left, or_right, passed_on, refused, says, unfit_is}
use Rattle.spdx_words.proofs.Saying.{spdx_given}
use Rattle.spdx_words.proofs.words.packages.read_diff.Goals as goal

pub returns-in_err-diff : goal.returns-in_err-diff
returns-in_err-diff c program behind words =
    of_memory _ c.from_residual.result c.from_residual.ensures.1

pub returns-in_err-with : goal.returns-in_err-with
returns-in_err-with c program behind words =
    of_memory _ c.from_residual-in_err-with.result c.from_residual-in_err-with.ensures.1

pub returns-in_err-matches : goal.returns-in_err-matches
returns-in_err-matches c program behind words =
    let formats = c.in_ok-diff.ensures.0 in
    let forms = c.in_ok-diff.ensures.1 in
    let options = table.diff_options formats.0 forms.0 in
    let name = codes "diff" in
    let ws = map text_of c.args.words.now in
    let app = lines.of_spdx name options in
    let taken = spdx_given name options program behind in
    let e = c.in_err-matches.field-0.0 in
    passed_on ws _ e c.from_residual-in_err-matches.ensures.1
    (refused app (program ∷ name ∷ behind) name options behind taken ws words ws (unfit.changes_unfit (given options behind)) e (c.in_err-matches.ensures.err app (c.in_ok-with.ensures _ c.in_ok-diff.ensures.2) refl (enters app (program ∷ name ∷ behind) name options behind taken ws words))
    (λ fault. subst (λ ws. lines.IsRefused ws (kind_of e)) (sym words) (lines.diff program behind (kind_of e) formats forms fault)))

pub returns-in-Some : goal.returns-in-Some
returns-in-Some c program behind words =
    let formats = c.in_ok-diff.ensures.0 in
    let forms = c.in_ok-diff.ensures.1 in
    let options = table.diff_options formats.0 forms.0 in
    let name = codes "diff" in
    let ws = map text_of c.args.words.now in
    let app = lines.of_spdx name options in
    let taken = spdx_given name options program behind in
    let found = c.in_ok-matches.ensures.ok app (c.in_ok-with.ensures _ c.in_ok-diff.ensures.2) refl in
    let rows = (rows_of (found_of c.in_ok-matches.matches)) in
    let k = kind_of c.error.result in
    subst (λ ws. lines.IsRefused ws k) (sym words)
    (lines.diff program behind k formats forms (unfit_is app (program ∷ name ∷ behind) name options behind taken ws words unfit.changes_unfit k rows found (or_left (unfit.source_unfit rows) (unfit.files_unfit rows) c.in-Some.ensures)))

pub returns-in-Some-files : goal.returns-in-Some-files
returns-in-Some-files c program behind words =
    let formats = c.in_ok-diff.ensures.0 in
    let forms = c.in_ok-diff.ensures.1 in
    let options = table.diff_options formats.0 forms.0 in
    let name = codes "diff" in
    let ws = map text_of c.args.words.now in
    let app = lines.of_spdx name options in
    let taken = spdx_given name options program behind in
    let found = c.in_ok-matches.ensures.ok app (c.in_ok-with.ensures _ c.in_ok-diff.ensures.2) refl in
    let none = c.in_ok-matches.ensures.taken app (c.in_ok-with.ensures _ c.in_ok-diff.ensures.2) refl in
    let rows = (rows_of (found_of c.in_ok-matches.matches)) in
    let r = c.changes_request.result in
    subst (λ ws. lines.IsSaid ws (request.Changes r)) (sym words)
    (lines.diff program behind r formats forms (says app (program ∷ name ∷ behind) name options behind taken ws words unfit.changes_unfit (λ rows. said.IsChanges rows r) rows found none (neither (unfit.source_unfit rows) _ c.in-None.ensures (having _ c.in-Some-files.ensures.none)) (c.changes_request.ensures c.in-Some-files.ensures.some.0 c.in-Some-files.ensures.some.1)))

pub returns : goal.returns
returns c program behind words =
    let formats = c.in_ok-diff.ensures.0 in
    let forms = c.in_ok-diff.ensures.1 in
    let options = table.diff_options formats.0 forms.0 in
    let name = codes "diff" in
    let ws = map text_of c.args.words.now in
    let app = lines.of_spdx name options in
    let taken = spdx_given name options program behind in
    let found = c.in_ok-matches.ensures.ok app (c.in_ok-with.ensures _ c.in_ok-diff.ensures.2) refl in
    let rows = (rows_of (found_of c.in_ok-matches.matches)) in
    let k = kind_of c.error-in-None-files.result in
    subst (λ ws. lines.IsRefused ws k) (sym words)
    (lines.diff program behind k formats forms (unfit_is app (program ∷ name ∷ behind) name options behind taken ws words unfit.changes_unfit k rows found (or_right (unfit.source_unfit rows) _ (sym (lacking _ c.in-None-files.ensures.none)))))
