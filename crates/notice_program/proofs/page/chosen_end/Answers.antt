use Rattle.std.proofs.Common.{map, subst, sym}
use Rattle.std.specs.List.{zip}
use Rattle.std.proofs.lemmas.Result.{IfOk-weaker}
use Rattle.owed_texts.specs.declared.trouble.TextTrouble.{TextTrouble}
use Rattle.notice_program.specs.declared.end.End.TheVariants as end
use Rattle.notice_program.specs.Page.{IsChosenEnd, IsNoFolder, IsPlacedEnd, no_folder, placed}
use Rattle.notice_program.specs.Taken.{entry_of, taken, used_in}
use Rattle.notice_program.proofs.Ending.{refused}
use Rattle.notice_program.proofs.page.chosen_end.Goals as goal

pub returns-in-Ok : goal.returns-in-Ok
returns-in-Ok g c =
    let s = g.S.Shelf.told c.args.shelf.now in
    let xs = map taken (zip (map entry_of c.args.entries.now) (used_in c.args.chosen.now)) in
    IfOk-weaker c.there_end.result (IsPlacedEnd s c.args.request xs) (IsChosenEnd s c.args.request xs) (λ e is. placed c.in-Ok.ensures.ok is) c.there_end.ensures

pub returns-in-Err-Refused : goal.returns-in-Err-Refused
returns-in-Err-Refused g c =
    let s = g.S.Shelf.told c.args.shelf.now in
    let xs = map taken (zip (map entry_of c.args.entries.now) (used_in c.args.chosen.now)) in
    subst (λ (t : TextTrouble). IsChosenEnd s c.args.request xs (end.NoFolder t)) (sym c.in-Err-Refused.trouble-is)
    (no_folder (refused (IsNoFolder s c.args.request.folders.own) _ c.in-Err-Refused.trouble c.in-Err-Refused.field-0-is c.in-Err-Refused.ensures.err))
