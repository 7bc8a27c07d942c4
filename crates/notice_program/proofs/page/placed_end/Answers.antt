use Rattle.std.proofs.Common.{sym, ◌∙◌, ap, map, subst, List}
use Rattle.std.specs.Global.{Vec}
use Rattle.std.proofs.lemmas.Result.{IfOk-weaker}
use Rattle.owed_texts.specs.declared.trouble.TextTrouble.{TextTrouble}
use Rattle.owed_texts.specs.declared.own.ReadFile.{ReadFile}
use Rattle.owed_texts.specs.All.{AreAllOwn, reads_in}
use Rattle.notice_program.specs.Noted.{noted_in}
use Rattle.notice_program.specs.Page.{IsNotedEnd, IsPlacedEnd, no_own, noted, reading_of}
use Rattle.notice_program.specs.Taken.{owner, taken_by}
use Rattle.notice_program.proofs.Ending.{none_are, own_read, some_are}
use Rattle.notice_program.proofs.page.placed_end.Goals as goal

pub returns-then-is_none : goal.returns-then-is_none
returns-then-is_none g c =
    let s = g.S.Shelf.told c.args.shelf.now in
    let a = c.args.request in
    let xs = map taken_by c.args.placed.now in
    let own = own_read s a c.reading_of.result c.args.placed.now (reads_in c.in_ok-own.own.files.items) c.in_ok-own.own.lacking.items c.reading_of.ensures c.in_ok-own.ensures in
    let none = none_are c.in_ok-own.own.lacking.items c.deref.result.now c.deref.ensures.value (sym c.is_none.ensures ∙ c.if-is_none.true) in
    IfOk-weaker c.read_end.result (IsNotedEnd s a (noted_in xs (reads_in c.deref-then-is_none.result.now))) (IsPlacedEnd s a xs)
    (λ e is. noted (reads_in c.in_ok-own.own.files.items) (subst (λ (ts : List TextTrouble). AreAllOwn s (reading_of a) (map owner xs) (reads_in c.in_ok-own.own.files.items) ts) none own)
    (subst (λ (fs : List (Vec ReadFile)). IsNotedEnd s a (noted_in xs (reads_in fs)) e) c.deref-then-is_none.ensures.value is))
    c.read_end.ensures

pub returns : goal.returns
returns g c =
    let s = g.S.Shelf.told c.args.shelf.now in
    no_own (reads_in c.in_ok-own.own.files.items)
    (own_read s c.args.request c.reading_of.result c.args.placed.now (reads_in c.in_ok-own.own.files.items) c.in_ok-own.own.lacking.items c.reading_of.ensures c.in_ok-own.ensures)
    (some_are c.in_ok-own.own.lacking.items c.deref.result.now c.deref.ensures.value (sym c.is_none.ensures ∙ c.if-is_none.false))
