use Rattle.std.proofs.Common.{refl, subst, sym, ◌∷◌, codes, map}
use Rattle.clap.specs.Matches.{found_of}
use Rattle.clap.specs.Values.{kind_of}
use Rattle.clap.specs.Walk.{rows_of}
use Rattle.spdx_words.specs.Commands as table
use Rattle.spdx_words.specs.Lines as lines
use Rattle.spdx_words.specs.Options.{given, text_of}
use Rattle.spdx_words.specs.Said as said
use Rattle.spdx_words.specs.Unfit as unfit
use Rattle.spdx_words.specs.declared.request.Request.TheVariants as request
use Rattle.spdx_words.proofs.Answering.{enters, having, lacking, of_memory, passed_on, refused, says, unfit_is}
use Rattle.spdx_words.proofs.Saying.{make_given}
use Rattle.spdx_words.proofs.words.list.read_make.Goals as goal

pub returns-in_err-list_alone : goal.returns-in_err-list_alone
returns-in_err-list_alone c program behind words =
    of_memory _ c.from_residual.result c.from_residual.ensures.1

pub returns-in_err-matches : goal.returns-in_err-matches
returns-in_err-matches c program behind words =
    let options = table.make_options in
    let name = codes "make" in
    let ws = map text_of c.args.words.now in
    let app = table.spdx_list in
    let taken = make_given behind in
    let e = c.in_err-matches.field-0.0 in
    passed_on (program ∷ ws) _ e c.from_residual-in_err-matches.ensures.1
    (refused app (codes "list" ∷ name ∷ behind) name options behind taken ws words (program ∷ ws) (unfit.make_unfit (given options behind)) e (c.in_err-matches.ensures.err app c.in_ok-list_alone.ensures refl (enters app (codes "list" ∷ name ∷ behind) name options behind taken ws words))
    (λ fault. subst (λ ws. lines.IsRefused (program ∷ ws) (kind_of e)) (sym words) (lines.make program behind (kind_of e) fault)))

pub returns-in-Some : goal.returns-in-Some
returns-in-Some c program behind words =
    let options = table.make_options in
    let name = codes "make" in
    let ws = map text_of c.args.words.now in
    let app = table.spdx_list in
    let taken = make_given behind in
    let found = c.in_ok-matches.ensures.ok app c.in_ok-list_alone.ensures refl in
    let none = c.in_ok-matches.ensures.taken app c.in_ok-list_alone.ensures refl in
    let rows = (rows_of (found_of c.in_ok-matches.matches)) in
    let r = c.in-Some.request in
    subst (λ ws. lines.IsSaid (program ∷ ws) (request.Make r)) (sym words)
    (lines.make program behind r (says app (codes "list" ∷ name ∷ behind) name options behind taken ws words unfit.make_unfit (λ rows. said.IsMake rows r) rows found none (having _ c.in-Some.ensures.none) c.in-Some.ensures.some))

pub returns : goal.returns
returns c program behind words =
    let options = table.make_options in
    let name = codes "make" in
    let ws = map text_of c.args.words.now in
    let app = table.spdx_list in
    let taken = make_given behind in
    let found = c.in_ok-matches.ensures.ok app c.in_ok-list_alone.ensures refl in
    let rows = (rows_of (found_of c.in_ok-matches.matches)) in
    let k = kind_of c.error.result in
    subst (λ ws. lines.IsRefused (program ∷ ws) k) (sym words)
    (lines.make program behind k (unfit_is app (codes "list" ∷ name ∷ behind) name options behind taken ws words unfit.make_unfit k rows found (lacking _ c.in-None.ensures.none)))
