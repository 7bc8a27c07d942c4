use Rattle.std.proofs.Common.{map, subst, sym}
use Rattle.std.specs.Prelude.{String}
use Rattle.std.specs.declared.alloc.Global.{Global}
use Rattle.owed_texts.specs.Held.{held_of}
use Rattle.notice_told.specs.declared.page.NoticeFault.{NoticeFault}
use Rattle.notice_told.specs.Page.{IsNoticeFault}
use Rattle.notice_program.specs.declared.end.End.TheVariants as end
use Rattle.notice_program.specs.Page.{IsHeldEnd}
use Rattle.notice_program.proofs.Ending.{not_utf8_is, told_is}
use Rattle.notice_program.proofs.page.held_end.Goals as goal

pub returns-in-Ok : goal.returns-in-Ok
returns-in-Ok c =
    told_is c.args.request c.args.noted.now (map held_of c.args.held.now) c.in_ok-general.general.items c.deref.result.now c.look_of.result c.in-Ok.text c.in_ok-told-in-Ok.field-0
    c.in_ok-general.ensures c.deref.ensures.value c.look_of.ensures c.in-Ok.ensures.ok (rw c.in-Ok.text-is at c.in_ok-told-in-Ok.ensures)

pub returns-in-Err-NotUtf8 : goal.returns-in-Err-NotUtf8
returns-in-Err-NotUtf8 c =
    let held = map held_of c.args.held.now in
    subst (λ (n : String Global). IsHeldEnd c.args.request c.args.noted.now held (end.NotUtf8 n)) (sym c.in-Err-NotUtf8.name-is)
    (not_utf8_is c.args.request c.args.noted.now held c.in_ok-general.general.items c.deref.result.now c.look_of.result c.in-Err-NotUtf8.name c.in_ok-general.ensures c.deref.ensures.value c.look_of.ensures
    (subst (λ (f : NoticeFault). IsNoticeFault c.look_of.result c.args.noted.now c.deref.result.now f) c.in-Err-NotUtf8.field-0-is c.in-Err-NotUtf8.ensures.err))
