-- A file that is read whole.
use Rattle.std.proofs.Common.{inl, inr, refl, ℕ, List, [], ◌∷◌, Option}
use Rattle.std.specs.declared.io.Error.{Error}
use Rattle.line_engine.specs.Device.{Told}
use Rattle.manifests.specs.declared.form.Form.{Form}
use Rattle.shelves.specs.Shelf.{Shelved}
use Rattle.spdx_check.specs.declared.check.Check.{Check}
use Rattle.check_files.specs.declared.trouble.CheckTrouble.{CheckTrouble}
use Rattle.check_files.specs.declared.trouble.CheckTrouble.TheVariants as trouble
use Rattle.check_files.specs.Tally.{Tally}
use Rattle.check_files.specs.Told.{Account, Does, Writes}
use Rattle.check_files.proofs.Doing.{heard_alone, written_alone}
use Rattle.shelves.specs.AtPath.{FailsAt, IsContent, told_path}
use Rattle.check_program.specs.Paths.{IsPartChecked, IsPartStep}
use Rattle.check_program.specs.Unread.{PassesUnread}
use Rattle.check_program.proofs.Streams.{content_gives, passed}

-- it is read and checked
pub read : (s : Shelved) (check : Check) (form : Option Form) (path bytes : List ℕ) (out out' : Told) (heard : Account CheckTrouble) (old new : Tally)
    → IsContent s path bytes → Writes out out' (λ text. IsPartChecked check form (told_path path) bytes old text new)
    → Does out out' heard heard (λ text told. IsPartStep s check form path old text told new)
read s check form path bytes out out' heard old new content w =
    written_alone out out' heard (λ text. IsPartChecked check form (told_path path) bytes old text new) (λ text told. IsPartStep s check form path old text told new) w
    (λ text is. inl (bytes, content_gives s path bytes content, is, refl))

-- it can't be read
pub unread : (s : Shelved) (check : Check) (form : Option Form) (path : List ℕ) (e : Error) (out : Told) (heard heard' : Account CheckTrouble) (old new : Tally)
    → FailsAt s path e → PassesUnread (told_path path) e heard heard' old new → Does out out heard heard' (λ text told. IsPartStep s check form path old text told new)
unread s check form path e out heard heard' old new f p =
    heard_alone out heard heard' (trouble.Unreadable p.0 e ∷ []) (λ text told. IsPartStep s check form path old text told new) p.2.tells
    (inr (passed (FailsAt s path) (told_path path) e heard heard' old new f p))
