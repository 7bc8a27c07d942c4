-- Files that are read, one more; and where they are read from.
use Rattle.std.proofs.Common.{◌≡◌, ℕ, Bool, List, [], ◌∷◌, ◌++◌, map, ◌∙◌, ap, sym, refl, subst}
use Rattle.std.specs.Prelude.{◌||◌, IfOk, Option, Some, Result, Ok, Err, String, string_bytes}
use Rattle.std.specs.List.{list_any}
use Rattle.std.specs.declared.alloc.AllocError.{AllocError}
use Rattle.std.specs.declared.alloc.Global.{Global}
use Rattle.spdx_requirement.specs.declared.failure.Failure.{Failure}
use Rattle.spdx_requirement.specs.declared.failure.Failure.TheVariants.{Refused}
use Rattle.spdx_requirement.specs.Failures.{IfRefused}
use Rattle.owed_texts.specs.declared.own.Reading.{Reading}
use Rattle.owed_texts.specs.Home.{IsHome, IsNoHome}
use Rattle.owed_texts.specs.Names.{AreNames, AreNoNames}
use Rattle.std.specs.Option.{option_to_list}
use Rattle.shelves.specs.Shelf.{Shelved}
use Rattle.notice_texts.specs.Owed.{Seen}
use Rattle.owed_texts.specs.declared.home.Home.{Home}
use Rattle.owed_texts.specs.declared.own.OwnFiles.{OwnFiles}
use Rattle.owed_texts.specs.declared.trouble.TextTrouble.{TextTrouble}
use Rattle.package_items.specs.Each.{AreHad, none}
use Rattle.owed_texts.specs.Own.{Owner, AreOwn, lies, lost, AreOwnAmong, AreOwnIn, among, unnamed, AreRead, IsFile, IsNoFile, Read, read_of}
use Rattle.package_items.proofs.Each.{more_had, more_lacked}
use Rattle.owed_texts.proofs.Zips.{kept_more}

-- a file was read, and kept unless it was empty
pub one_read : (s : Shelved) (plain : Bool) (name : List ℕ) (h : Home) (f : Seen) (o : Option Read) (old new : OwnFiles) (files : List Seen) → AreRead s plain name h files old
    → IsFile s plain h f o → map read_of new.files.items ≡ map read_of old.files.items ++ option_to_list o → new.lacking.items ≡ old.lacking.items → AreRead s plain name h (files ++ f ∷ []) new
one_read s plain name h f o old new files before is fs ls = record {
  reads = before.reads ++ o ∷ [];
  each = more_had (IsFile s plain h) (IsNoFile s name h) f o files before.reads (before.reads ++ o ∷ []) old.lacking.items new.lacking.items before.each is refl ls;
  kept = kept_more before.reads o (map read_of old.files.items) (map read_of new.files.items) before.kept fs;
}

-- one wasn't
pub one_told : (s : Shelved) (plain : Bool) (name : List ℕ) (h : Home) (f : Seen) (t : TextTrouble) (old new : OwnFiles) (files : List Seen) → AreRead s plain name h files old
    → IsNoFile s name h f t → new.files.items ≡ old.files.items → new.lacking.items ≡ old.lacking.items ++ t ∷ [] → AreRead s plain name h (files ++ f ∷ []) new
one_told s plain name h f t old new files before is fs ls = record {
  reads = before.reads;
  each = more_lacked (IsFile s plain h) (IsNoFile s name h) f t files before.reads before.reads old.lacking.items new.lacking.items before.each is refl ls;
  kept = ap (map read_of) fs ∙ before.kept;
}

-- none is read yet
pub none_read : (s : Shelved) (plain : Bool) (name : List ℕ) (h : Home) (own : OwnFiles) → own.files.items ≡ [] → own.lacking.items ≡ [] → AreRead s plain name h [] own
none_read s plain name h own fs ls = record {
  reads = [];
  each = subst (λ (z : List TextTrouble). AreHad (IsFile s plain h) (IsNoFile s name h) [] [] z) (sym ls) none;
  kept = ap (map read_of) fs;
}

pub refused : {E : Type 0} (P : E → Type 0) (f : Failure E) (e : E) → f ≡ Refused e → IfRefused P f → P e
refused {E} P f e is h = subst (λ (z : Failure E). IfRefused P z) is h

pub any_in_map : {A B : Type 0} (p : B → Bool) (f : A → B) (xs : List A) → list_any p (map f xs) ≡ list_any (λ x. p (f x)) xs
any_in_map p f [] = refl
any_in_map p f (x ∷ xs) = ap (λ (b : Bool). p (f x) || b) (any_in_map p f xs)

-- what holds where one trouble is told
pub told_alone : (r : Result OwnFiles AllocError) (t : TextTrouble) (P : OwnFiles → Type 0) → ((own : OwnFiles) → own.files.items ≡ [] → own.lacking.items ≡ t ∷ [] → P own)
    → IfOk r (λ (own : OwnFiles). own.files.items ≡ []) → IfOk r (λ (own : OwnFiles). own.lacking.items ≡ t ∷ []) → IfOk r P
told_alone (Ok own) t P f fs ls = f own fs ls
told_alone (Err e) t P f fs ls = tt

pub own_among : (s : Shelved) (a : Reading) (x : Owner) (h : Home) (folder : List ℕ) (names seen : List (String Global)) (own : OwnFiles) → folder ≡ string_bytes h.folder → seen ≡ names
    → AreNames s folder names → AreOwnAmong s a x h (map string_bytes seen) own → AreOwnIn s a x h own
own_among s a x h folder names seen own e f named is =
    among names (subst (λ (z : List ℕ). AreNames s z names) e named) (subst (λ (z : List (String Global)). AreOwnAmong s a x h (map string_bytes z) own) f is)

pub own_unnamed : (s : Shelved) (a : Reading) (x : Owner) (h : Home) (folder : List ℕ) (t : TextTrouble) (own : OwnFiles) → folder ≡ string_bytes h.folder
    → AreNoNames s x.name folder t → own.files.items ≡ [] → own.lacking.items ≡ t ∷ [] → AreOwnIn s a x h own
own_unnamed s a x h folder t own e is fs ls = unnamed t (subst (λ (z : List ℕ). AreNoNames s x.name z t) e is) fs ls

pub own_lies : (s : Shelved) (a : Reading) (x : Owner) (path : List ℕ) (h : Home) (own : OwnFiles) → path ≡ x.path
    → IsHome s a.folders path x.of (Some h) → AreOwnIn s a x h own → AreOwn s a x own
own_lies s a x path h own e is own_is = lies h (subst (λ (z : List ℕ). IsHome s a.folders z x.of (Some h)) e is) own_is

pub own_lost : (s : Shelved) (a : Reading) (x : Owner) (path : List ℕ) (t : TextTrouble) (own : OwnFiles) → path ≡ x.path
    → IsNoHome s a.folders x.name path x.of t → own.files.items ≡ [] → own.lacking.items ≡ t ∷ [] → AreOwn s a x own
own_lost s a x path t own e is fs ls = lost t (subst (λ (z : List ℕ). IsNoHome s a.folders x.name z x.of t) e is) fs ls
