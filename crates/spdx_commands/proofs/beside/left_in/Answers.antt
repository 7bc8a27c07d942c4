use Rattle.std.proofs.Common.{◌∙◌, List, ap, flat_map, map}
use Rattle.shelves.specs.Shelf.{entry_of}
use Rattle.shelves.specs.declared.shelf.Entry.{Entry}
use Rattle.spdx_commands.specs.Beside.{left_at, unread}
use Rattle.spdx_commands.proofs.Besides.{in_order}
use Rattle.spdx_commands.proofs.beside.left_in.Goals as goal

pub returns-in_ok-sort-in-Ok : goal.returns-in_ok-sort-in-Ok
returns-in_ok-sort-in-Ok g c =
    in_order (g.S.Shelf.told c.args.shelf.now) c.args.folder.now (map entry_of c.in-Ok.entries.named.items) c.in-Ok.entries.unnamed c.in_ok-left-in-Ok.left.items c.sort.new.self.items c.in-Ok.ensures.ok
    (c.in_ok-left-in-Ok.ensures ∙ ap (λ (es : List Entry). flat_map (left_at c.args.folder.now) (map entry_of es)) c.deref.ensures.value) c.sort.ensures.permutation c.in_ok-sort-in-Ok.ensures.sorted

pub returns-in-Err : goal.returns-in-Err
returns-in-Err g c = unread c.in-Err.field-0 c.in-Err.ensures.err c.new.ensures.items
