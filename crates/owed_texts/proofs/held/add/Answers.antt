use Rattle.std.proofs.Common.{refl}
use Rattle.std.specs.Prelude.{option_map}
use Rattle.owed_texts.specs.Held.{held_of}
use Rattle.owed_texts.proofs.Texts.{one_had, one_told, refused}
use Rattle.owed_texts.proofs.held.add.Goals as goal

pub returns-in_ok-keep-in-Ok : goal.returns-in_ok-keep-in-Ok
returns-in_ok-keep-in-Ok g c names before =
    one_had (g.S.Shelf.told c.args.shelf.now) c.args.folder c.args.name.now (option_map held_of c.in-Ok.text) c.args.held.now _ names before
    c.in-Ok.ensures.ok c.in_ok-keep-in-Ok.ensures refl

pub returns-in_ok-push-in-Err-Refused : goal.returns-in_ok-push-in-Err-Refused
returns-in_ok-push-in-Err-Refused g c names before =
    one_told (g.S.Shelf.told c.args.shelf.now) c.args.folder c.args.name.now c.in-Err-Refused.trouble c.args.held.now _ names before
    (refused _ _ _ c.in-Err-Refused.field-0-is c.in-Err-Refused.ensures.err) refl c.in_ok-push-in-Err-Refused.ensures.items
