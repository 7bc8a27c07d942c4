-- The ends of files, one after the other.
use Rattle.std.proofs.Common.{◌≡◌, ℕ, ◌+◌, ◌<◌, ◌||◌, Bool, true, false, List, [], ◌∷◌, ◌++◌, get_or, length, map, take, refl, subst, sym, arith}
use Rattle.std.specs.Prelude.{All, if◌then◌else◌}
use Rattle.std.specs.Borrow.{Bor}
use Rattle.std.specs.List.{AllByRecursion, AllZip, list_any}
use Rattle.std.proofs.lemmas.List.{map_more}
use Rattle.std.proofs.lemmas.List.Elements.{All-from_recursion}
use Rattle.shelves.specs.Shelf.{Shelved}
use Rattle.spdx_requirement.specs.Rows.{Rows}
use Rattle.meaning_program.specs.declared.files.FileEnd.{FileEnd}
use Rattle.meaning_program.specs.declared.files.FileEnd.TheVariants.{Read, Unread}
use Rattle.meaning_program.specs.declared.files.Run.{Run}
use Rattle.meaning_program.specs.declared.simplified.UnmeantLine.{UnmeantLine}
use Rattle.meaning_program.specs.Files.{IsEndOf, IsMeantAt, has_unmeant, is_some, is_unread, path_in, status_of}
use Rattle.meaning_program.proofs.Lines.{tells_nothing}

push : {A B : Type 0} (R : A → B → Type 0) (xs : List A) (ys : List B) (x : A) (y : B) → AllZip R xs ys → R x y → AllZip R (xs ++ x ∷ []) (ys ++ y ∷ [])
push R [] [] x y h r = (r, tt)
push R [] (b ∷ ys) x y h r = absurd h
push R (a ∷ xs) [] x y h r = absurd h
push R (a ∷ xs) (b ∷ ys) x y h r = (h.0, push R xs ys x y h.1 r)

-- that of the file at one more path
pub one_more : {B : Type 0} (R : List ℕ → B → Type 0) (paths : List (Bor (List ℕ))) (i : ℕ) (d : Bor (List ℕ)) (ends new : List B) (end : B) → i < length paths
    → AllZip R (map path_in (take i paths)) ends → R (get_or paths i d).now end → new ≡ ends ++ end ∷ []
    → AllZip R (map path_in (take (i + 1) paths)) new
one_more {B} R paths i d ends new end lt h r e =
    subst (λ (ps : List (List ℕ)). AllZip R ps new) (sym (map_more path_in paths i d lt))
    (subst (λ (es : List B). AllZip R (map path_in (take i paths) ++ (get_or paths i d).now ∷ []) es) (sym e) (push R (map path_in (take i paths)) ends (get_or paths i d).now end h r))

-- ---- a run whose status is 0

both_false : (u m : Bool) → (if u then 2 else (if m then 1 else 0)) < 1 → (u ≡ false) × (m ≡ false)
both_false true m h = absurd (omega (arith, h))
both_false false true h = absurd (omega (arith, h))
both_false false false h = (refl, refl)

first_false : (a b : Bool) → (a || b) ≡ false → (a ≡ false) × (b ≡ false)
first_false true b e = absurd cc
first_false false b e = (refl, e)

none_unmeant : (lines : List UnmeantLine) → is_some lines ≡ false → lines ≡ []
none_unmeant [] e = refl
none_unmeant (line ∷ lines) e = absurd cc

module _ (s : Shelved) (c : Rows) (is_lax : Bool) where
  meant : (path : List ℕ) (end : FileEnd) → IsEndOf s c is_lax path end → is_unread end ≡ false → has_unmeant end ≡ false → IsMeantAt s c is_lax path
  meant path (Read n x) h u m = record {
    bytes = h.1.bytes;
    content = h.1.content;
    meant = (tells_nothing c is_lax h.1.bytes x h.1.simplified).0 (none_unmeant x.unmeant.items m);
  }
  meant path (Unread n e) h u m = absurd cc

  all_meant : (paths : List (List ℕ)) (ends : List FileEnd) → AllZip (IsEndOf s c is_lax) paths ends → list_any is_unread ends ≡ false → list_any has_unmeant ends ≡ false → AllByRecursion (IsMeantAt s c is_lax) paths
  all_meant [] ends h u m = tt
  all_meant (path ∷ paths) [] h u m = absurd h
  all_meant (path ∷ paths) (end ∷ ends) h u m =
      let read = first_false (is_unread end) (list_any is_unread ends) u in
      let quiet = first_false (has_unmeant end) (list_any has_unmeant ends) m in
      (meant path end h.0 read.0 quiet.0, all_meant paths ends h.1 read.1 quiet.1)

  pub each_meant : (paths : List (List ℕ)) (run : Run) → AllZip (IsEndOf s c is_lax) paths run.files.items → status_of run < 1 → All (IsMeantAt s c is_lax) paths
  each_meant paths run h low =
      let none = both_false (list_any is_unread run.files.items) (list_any has_unmeant run.files.items) low in
      All-from_recursion (IsMeantAt s c is_lax) paths (all_meant paths run.files.items h none.0 none.1)
