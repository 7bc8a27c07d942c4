use Rattle.std.proofs.Common.{◌≡◌, Bool, subst}
use Rattle.std.specs.Bool.{OnFalse}
use Rattle.std.specs.BTreeSet.{contains}
use Rattle.spdx_commands.specs.Beside.{IsFileBy, text_cmp}
use Rattle.spdx_commands.proofs.Besides.{already, no_longer, nothing_beside, told_already, told_now}
use Rattle.spdx_commands.proofs.beside.tell_beside.Goals as goal

pub returns-then-not-is_file : goal.returns-then-not-is_file
returns-then-not-is_file g c = λ known knows.
    let s = g.S.Shelf.told c.args.shelf.now in
    nothing_beside s c.args.folders.now known c.args.path.now (g.T.Listener.heard c.args.listener.now) (subst (λ (b : Bool). IsFileBy b s c.args.path.now) c.if-not-is_file.true c.is_file.ensures) knows

pub returns-then-not-is_new : goal.returns-then-not-is_new
returns-then-not-is_new g c = λ known knows.
    let s = g.S.Shelf.told c.args.shelf.now in
    let old = c.args.folders.now in
    let folder = c.folder_of-folder.result in
    let is = subst (λ (b : Bool). IsFileBy b s c.args.path.now) c.if-not-is_file.false c.is_file.ensures in
    let has = already (contains text_cmp old folder) c.in_ok-is_new.is_new c.in_ok-is_new.ensures.added c.if-not-is_new.true in
    let keys = subst (λ (b : Bool). OnFalse b (c.insert.new.self.keys ≡ old.keys)) c.if-not-is_new.true c.in_ok-is_new.ensures.unchanged in
    told_already s old c.insert.new.self known c.args.path.now folder (g.T.Listener.heard c.args.listener.now) is c.folder_of-folder.ensures has keys knows

pub returns : goal.returns
returns g c = λ known knows.
    let s = g.S.Shelf.told c.args.shelf.now in
    let old = c.args.folders.now in
    let folder = c.folder_of-folder.result in
    let is = subst (λ (b : Bool). IsFileBy b s c.args.path.now) c.if-not-is_file.false c.is_file.ensures in
    let has = no_longer (contains text_cmp old folder) c.in_ok-is_new.is_new c.in_ok-is_new.ensures.added c.if-not-is_new.false in
    told_now s old c.insert.new.self known c.args.path.now folder c.in_ok-left.left.items (g.T.Listener.heard c.args.listener.now) (g.T.Listener.heard c.tell_left.new.listener)
    is c.folder_of-folder.ensures has c.in_ok-is_new.ensures.updates.0 c.in_ok-left.ensures c.in_ok-tell_left.ensures.all knows
