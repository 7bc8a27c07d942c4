-- What is said of changes, one more.
use Rattle.std.proofs.Common.{◌≡◌, ℕ, ◌+◌, ◌<◌, List, [], ◌∷◌, ◌++◌, length, map, take, ◌∙◌, ap, sym, subst, get_or}
use Rattle.std.specs.Prelude.{Option, None, Some}
use Rattle.std.proofs.lemmas.List.{map-append, take_more}
use Rattle.spdx_requirement.specs.Rows.{Rows}
use Rattle.package_changes.specs.declared.package.Change.{Change}
use Rattle.package_changes.specs.Rows.{ChangeRow, change_row}
use Rattle.changes_program.specs.Said.{AreSaid, none, silent, one, IsOneMore, IsSaidChange, SaidRow, with_one}

push_one : {c : Rows} (x : ChangeRow) (s : SaidRow) {xs : List ChangeRow} {said : List SaidRow}
    → AreSaid c xs said → IsSaidChange c x (Some s) → AreSaid c (xs ++ x ∷ []) (said ++ s ∷ [])
push_one x s none is = one is none
push_one x s (silent h rest) is = silent h (push_one x s rest is)
push_one x s (one h rest) is = one h (push_one x s rest is)

push_silent : {c : Rows} (x : ChangeRow) {xs : List ChangeRow} {said : List SaidRow}
    → AreSaid c xs said → IsSaidChange c x None → AreSaid c (xs ++ x ∷ []) said
push_silent x none is = silent is none
push_silent x (silent h rest) is = silent h (push_silent x rest is)
push_silent x (one h rest) is = one h (push_silent x rest is)

pushed : (c : Rows) (x : ChangeRow) (o : Option SaidRow) (xs : List ChangeRow) (said : List SaidRow)
    → AreSaid c xs said → IsSaidChange c x o → AreSaid c (xs ++ x ∷ []) (with_one said o)
pushed c x None xs said h is = push_silent x h is
pushed c x (Some s) xs said h is = push_one x s h is

pub one_more : (c : Rows) (xs : List Change) (i : ℕ) (d : Change) (old new : List SaidRow)
    → AreSaid c (map change_row (take i xs)) old → i < length xs → IsOneMore c (change_row (get_or xs i d)) old new
    → AreSaid c (map change_row (take (i + 1) xs)) new
one_more c xs i d old new h lt (o, said, e) =
    let x = get_or xs i d in
    let next : map change_row (take (i + 1) xs) ≡ map change_row (take i xs) ++ change_row x ∷ [] =
    ap (map change_row) (take_more xs i d lt) ∙ map-append change_row (take i xs) (x ∷ []) in
    subst (λ (z : List SaidRow). AreSaid c (map change_row (take (i + 1) xs)) z) (sym e)
    (subst (λ (z : List ChangeRow). AreSaid c z (with_one old o)) (sym next) (pushed c (change_row x) o (map change_row (take i xs)) old h said))

pub none_yet : (c : Rows) (said : List SaidRow) → said ≡ [] → AreSaid c [] said
none_yet c said e = subst (λ (z : List SaidRow). AreSaid c [] z) (sym e) none
