use Rattle.std.proofs.Common.{refl}
use Rattle.std.specs.Prelude.{option_map}
use Rattle.notice_texts.specs.Owed.{seen}
use Rattle.owed_texts.specs.Own.{read_of}
use Rattle.owed_texts.proofs.FilesRead.{one_read, one_told, refused}
use Rattle.owed_texts.proofs.own.add.Goals as goal

pub returns-in_ok-keep-in-Ok : goal.returns-in_ok-keep-in-Ok
returns-in_ok-keep-in-Ok g c files before =
    one_read (g.S.Shelf.told c.args.shelf.now) c.args.plain c.args.name.now c.args.home.now (seen c.args.file.now) (option_map read_of c.in-Ok.read) c.args.own.now _ files before
    c.in-Ok.ensures.ok c.in_ok-keep-in-Ok.ensures refl

pub returns-in_ok-push-in-Err-Refused : goal.returns-in_ok-push-in-Err-Refused
returns-in_ok-push-in-Err-Refused g c files before =
    one_told (g.S.Shelf.told c.args.shelf.now) c.args.plain c.args.name.now c.args.home.now (seen c.args.file.now) c.in-Err-Refused.trouble c.args.own.now _ files before
    (refused _ _ _ c.in-Err-Refused.field-0-is c.in-Err-Refused.ensures.err) refl c.in_ok-push-in-Err-Refused.ensures.items
