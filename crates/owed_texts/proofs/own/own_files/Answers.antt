use Rattle.std.proofs.Common.{subst}
use Rattle.std.specs.Prelude.{Option}
use Rattle.std.proofs.lemmas.Result.{IfOk-weaker}
use Rattle.owed_texts.specs.declared.home.Home.{Home}
use Rattle.owed_texts.specs.Home.{IsHome}
use Rattle.owed_texts.specs.Own.{owner_of, AreOwn, AreOwnIn}
use Rattle.owed_texts.proofs.FilesRead.{own_lies, own_lost, refused, told_alone}
use Rattle.owed_texts.proofs.own.own_files.Goals as goal

pub returns-in-Ok-Some : goal.returns-in-Ok-Some
returns-in-Ok-Some g c =
    let s = g.S.Shelf.told c.args.shelf.now in
    let a = c.args.reading in
    let x = owner_of c.args.placed in
    IfOk-weaker c.files_in.result (AreOwnIn s a x c.in-Ok-Some.home) (AreOwn s a x)
    (λ own is. own_lies s a x c.as_str-path.result.now c.in-Ok-Some.home own c.as_str-path.ensures.value
    (subst (λ (o : Option Home). IsHome s a.folders c.as_str-path.result.now x.of o) c.in-Ok-Some.field-0-is c.in-Ok-Some.ensures.ok) is)
    c.files_in.ensures

pub returns-in-Err-Refused : goal.returns-in-Err-Refused
returns-in-Err-Refused g c =
    let s = g.S.Shelf.told c.args.shelf.now in
    let a = c.args.reading in
    let x = owner_of c.args.placed in
    told_alone c.lacking_all.result c.in-Err-Refused.trouble (AreOwn s a x)
    (λ own fs ls. own_lost s a x c.as_str-path.result.now c.in-Err-Refused.trouble own c.as_str-path.ensures.value (refused _ _ _ c.in-Err-Refused.field-0-is c.in-Err-Refused.ensures.err) fs ls)
    c.lacking_all.ensures.files c.lacking_all.ensures.lacking
