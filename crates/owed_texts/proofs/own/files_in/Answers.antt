use Rattle.std.proofs.Common.{map}
use Rattle.std.specs.Prelude.{string_bytes}
use Rattle.std.proofs.lemmas.Result.{IfOk-weaker}
use Rattle.owed_texts.specs.Own.{owner_of, AreOwnAmong, AreOwnIn}
use Rattle.owed_texts.proofs.FilesRead.{own_among, own_unnamed, refused, told_alone}
use Rattle.owed_texts.proofs.own.files_in.Goals as goal

pub returns-in-Ok : goal.returns-in-Ok
returns-in-Ok g c =
    let s = g.S.Shelf.told c.args.shelf.now in
    IfOk-weaker c.files_among.result (AreOwnAmong s c.args.reading (owner_of c.args.placed) c.args.home.now (map string_bytes c.deref.result.now)) (AreOwnIn s c.args.reading (owner_of c.args.placed) c.args.home.now)
    (λ own is. own_among s c.args.reading (owner_of c.args.placed) c.args.home.now c.as_str.result.now c.in-Ok.names.items c.deref.result.now own c.as_str.ensures.value c.deref.ensures.value c.in-Ok.ensures.ok is)
    c.files_among.ensures

pub returns-in-Err-Refused : goal.returns-in-Err-Refused
returns-in-Err-Refused g c =
    let s = g.S.Shelf.told c.args.shelf.now in
    told_alone c.lacking_all.result c.in-Err-Refused.trouble (AreOwnIn s c.args.reading (owner_of c.args.placed) c.args.home.now)
    (λ own fs ls. own_unnamed s c.args.reading (owner_of c.args.placed) c.args.home.now c.as_str.result.now c.in-Err-Refused.trouble own c.as_str.ensures.value (refused _ _ _ c.in-Err-Refused.field-0-is c.in-Err-Refused.ensures.err) fs ls)
    c.lacking_all.ensures.files c.lacking_all.ensures.lacking
