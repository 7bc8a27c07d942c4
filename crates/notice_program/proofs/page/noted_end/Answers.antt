use Rattle.std.proofs.Common.{sym, ◌∙◌, map, subst, List}
use Rattle.std.proofs.lemmas.Result.{IfOk-weaker}
use Rattle.owed_texts.specs.declared.held.HeldText.{HeldText}
use Rattle.owed_texts.specs.Held.{held_of}
use Rattle.notice_program.specs.Page.{IsHeldEnd, IsPackagesEnd, no_general, page}
use Rattle.notice_program.proofs.Ending.{general_had, none_are, some_are}
use Rattle.notice_program.proofs.page.noted_end.Goals as goal

pub returns-then-is_none : goal.returns-then-is_none
returns-then-is_none g c =
    let s = g.S.Shelf.told c.args.shelf.now in
    let had = general_had s c.args.request c.args.noted.now c.in_ok-lacks.lacks.items c.deref.result.now c.in_ok-held.held c.deref.ensures.value c.in_ok-lacks.ensures c.in_ok-held.ensures in
    let none = none_are c.in_ok-held.held.lacking.items c.deref-2.result.now c.deref-2.ensures.value (sym c.is_none.ensures ∙ c.if-is_none.true) in
    IfOk-weaker c.held_end.result (IsHeldEnd c.args.request c.args.noted.now (map held_of c.deref-then-is_none.result.now)) (IsPackagesEnd s c.args.request c.args.noted.now)
    (λ e is. page c.in_ok-held.held had none (subst (λ (ts : List HeldText). IsHeldEnd c.args.request c.args.noted.now (map held_of ts) e) c.deref-then-is_none.ensures.value is))
    c.held_end.ensures

pub returns : goal.returns
returns g c =
    let s = g.S.Shelf.told c.args.shelf.now in
    no_general c.in_ok-held.held
    (general_had s c.args.request c.args.noted.now c.in_ok-lacks.lacks.items c.deref.result.now c.in_ok-held.held c.deref.ensures.value c.in_ok-lacks.ensures c.in_ok-held.ensures)
    (some_are c.in_ok-held.held.lacking.items c.deref-2.result.now c.deref-2.ensures.value (sym c.is_none.ensures ∙ c.if-is_none.false))
