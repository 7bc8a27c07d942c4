use Rattle.std.proofs.Common.{ap, ◌∙◌, List, map, subst, sym}
use Rattle.std.specs.List.{zip}
use Rattle.std.proofs.lemmas.Result.{IfOk-weaker}
use Rattle.package_items.specs.declared.package.Package.{Package}
use Rattle.gate_program.specs.Asked.{lent}
use Rattle.choice_program.specs.Chosen.{IsChosen, IsNoChoice}
use Rattle.notice_program.specs.declared.end.End.{End}
use Rattle.notice_program.specs.Page.{IsChosenEnd}
use Rattle.notice_program.specs.Run.{IsFilesEnd, IsUnchosen, chosen, no_choice}
use Rattle.notice_program.specs.Taken.{Entry, entry_of, package_of, taken, used_in}
use Rattle.notice_program.proofs.run.files_end.Goals as goal

pub returns-in-Ok : goal.returns-in-Ok
returns-in-Ok g c =
    let s = g.S.Shelf.told c.args.shelf.now in
    let a = c.args.request in
    let own = c.in-Ok.chosen in
    let same = ap (map lent) c.deref-2.ensures.value ∙ c.in_ok-packages.ensures ∙ ap (map package_of) (ap (map entry_of) c.deref.ensures.value ∙ c.in_ok-entries.ensures) in
    IfOk-weaker c.chosen_end.result (IsChosenEnd s a (map taken (zip (map entry_of c.deref-in-Ok.result.now) (used_in own)))) (IsFilesEnd s c.args.replacements.now c.args.catalogue.now a c.args.files.now)
    (λ e is. chosen own (subst (λ (ps : List Package). IsChosen s c.args.replacements.now c.args.catalogue.now a.accepted a.one_for_all ps own) same c.in-Ok.ensures.ok)
    (subst (λ (es : List Entry). IsChosenEnd s a (map taken (zip es (used_in own))) e) (ap (map entry_of) c.deref-in-Ok.ensures.value ∙ c.in_ok-entries.ensures) is))
    c.chosen_end.ensures

pub returns : goal.returns
returns g c =
    let s = g.S.Shelf.told c.args.shelf.now in
    let a = c.args.request in
    let t = c.in-Err.trouble in
    let same = ap (map lent) c.deref-2.ensures.value ∙ c.in_ok-packages.ensures ∙ ap (map package_of) (ap (map entry_of) c.deref.ensures.value ∙ c.in_ok-entries.ensures) in
    IfOk-weaker c.unchosen.result (IsUnchosen t) (IsFilesEnd s c.args.replacements.now c.args.catalogue.now a c.args.files.now)
    (λ e is. subst (λ (x : End). IsFilesEnd s c.args.replacements.now c.args.catalogue.now a c.args.files.now x) (sym is.0)
    (no_choice t (subst (λ (ps : List Package). IsNoChoice s c.args.replacements.now c.args.catalogue.now a.accepted a.one_for_all ps t) same c.in-Err.ensures.err) is.1))
    c.unchosen.ensures
