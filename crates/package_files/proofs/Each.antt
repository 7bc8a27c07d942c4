-- Files that are listed, one more.
use Rattle.std.proofs.Common.{◌≡◌, ℕ, ◌+◌, ◌<◌, List, [], ◌∷◌, ◌++◌, length, map, take, arith, ◌∙◌, ap, sym, subst, get_or}
use Rattle.std.specs.Prelude.{false}
use Rattle.std.specs.Borrow.{Bor}
use Rattle.std.specs.List.{AllZip}
use Rattle.std.proofs.lemmas.List.{map-append, take_more}
use Rattle.shelves.specs.Shelf.{Shelved}
use Rattle.package_files.specs.declared.all.AllListed.{AllListed}
use Rattle.package_files.specs.declared.fault.FileFault.{FileFault}
use Rattle.package_files.specs.declared.listed.Listed.{Listed}
use Rattle.package_files.specs.declared.listed.Wanted.{Wanted}
use Rattle.package_files.specs.All.{AreListed, none, listed, left, IsOneMore, is_listed, is_left, is_of_memory, path_in}
use Rattle.package_files.specs.Faults.{IsNotListed}
use Rattle.package_files.specs.Listed.{IsListedAt}

push_listed : {s : Shelved} {w : Wanted} (path : List ℕ) (file : Listed) {paths : List (List ℕ)} {files : List Listed} {left_out : List FileFault}
    → AreListed s w paths files left_out → IsListedAt s w path file → AreListed s w (paths ++ path ∷ []) (files ++ file ∷ []) left_out
push_listed path file none is = listed is none
push_listed path file (listed h rest) is = listed h (push_listed path file rest is)
push_listed path file (left h kept rest) is = left h kept (push_listed path file rest is)

push_left : {s : Shelved} {w : Wanted} (path : List ℕ) (f : FileFault) {paths : List (List ℕ)} {files : List Listed} {left_out : List FileFault}
    → AreListed s w paths files left_out → IsNotListed s w path f → is_of_memory f ≡ false → AreListed s w (paths ++ path ∷ []) files (left_out ++ f ∷ [])
push_left path f none is kept = left is kept none
push_left path f (listed h rest) is kept = listed h (push_left path f rest is kept)
push_left path f (left h other rest) is kept = left h other (push_left path f rest is kept)

pushed : (s : Shelved) (w : Wanted) (path : List ℕ) (old new : AllListed) (paths : List (List ℕ))
    → AreListed s w paths old.files.items old.left_out.items → IsOneMore s w path old new → AreListed s w (paths ++ path ∷ []) new.files.items new.left_out.items
pushed s w path old new paths h (is_listed file is fs ls) =
    subst (λ (z : List Listed). AreListed s w (paths ++ path ∷ []) z new.left_out.items) (sym fs)
    (subst (λ (z : List FileFault). AreListed s w (paths ++ path ∷ []) (old.files.items ++ file ∷ []) z) (sym ls) (push_listed path file h is))
pushed s w path old new paths h (is_left f is out) =
    subst (λ (z : List Listed). AreListed s w (paths ++ path ∷ []) z new.left_out.items) (sym out.files_are)
    (subst (λ (z : List FileFault). AreListed s w (paths ++ path ∷ []) old.files.items z) (sym out.left_out_are) (push_left path f h is out.no_memory))

-- no path is read yet
pub none_yet : (s : Shelved) (w : Wanted) (files : List Listed) (left_out : List FileFault) → files ≡ [] → left_out ≡ [] → AreListed s w [] files left_out
none_yet s w files left_out fs ls =
    subst (λ (z : List Listed). AreListed s w [] z left_out) (sym fs) (subst (λ (z : List FileFault). AreListed s w [] [] z) (sym ls) none)

-- one path more is read
pub one_more : (s : Shelved) (w : Wanted) (ps : List (Bor (List ℕ))) (i : ℕ) (d : Bor (List ℕ)) (old new : AllListed)
    → AreListed s w (map path_in (take i ps)) old.files.items old.left_out.items → i < length ps → IsOneMore s w (get_or ps i d).now old new
    → AreListed s w (map path_in (take (i + 1) ps)) new.files.items new.left_out.items
one_more s w ps i d old new h lt more =
    let p = get_or ps i d in
    let next : map path_in (take (i + 1) ps) ≡ map path_in (take i ps) ++ p.now ∷ [] =
    ap (map path_in) (take_more ps i d lt) ∙ map-append path_in (take i ps) (p ∷ []) in
    subst (λ (z : List (List ℕ)). AreListed s w z new.files.items new.left_out.items) (sym next) (pushed s w p.now old new (map path_in (take i ps)) h more)

-- where none is left out, each path has its file
whole_by : {s : Shelved} {w : Wanted} {paths : List (List ℕ)} {files : List Listed} {left_out : List FileFault}
    → AreListed s w paths files left_out → left_out ≡ [] → AllZip (IsListedAt s w) paths files
whole_by none e = tt
whole_by (listed h rest) e = (h, whole_by rest e)
whole_by {left_out = f ∷ fs} (left h kept rest) e =
    let longer : length (f ∷ fs) ≡ 0 = ap length e in
    absurd (omega (arith, longer))

pub whole : (s : Shelved) (w : Wanted) (paths : List (List ℕ)) (files : List Listed) (left_out : List FileFault)
    → AreListed s w paths files left_out → left_out ≡ [] → AllZip (IsListedAt s w) paths files
whole s w paths files left_out h e = whole_by h e
