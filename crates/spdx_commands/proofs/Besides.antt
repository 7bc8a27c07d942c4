-- What was left beside the files at paths, one after the other.
use Rattle.std.proofs.Common.{◌≡◌, ◌∙◌, refl, sym, ap, ℕ, ◌+◌, ◌<◌, ◌||◌, Bool, arith, true, false, List, [], ◌∷◌, ◌++◌, append-nil, get_or, length, map, subst, take}
use Rattle.std.specs.Prelude.{IsPermutation, IsSorted, String, bytes_eq, cond, flat_map, not, string_bytes}
use Rattle.std.specs.declared.alloc.Global.{Global}
use Rattle.std.specs.String.{string_cmp}
use Rattle.std.specs.Borrow.{Bor}
use Rattle.std.specs.BTreeSet.{BTreeSet, contains}
use Rattle.std.specs.List.{list_any}
use Rattle.std.specs.Ordering.{is_eq}
use Rattle.std.proofs.lemmas.List.{map_more}
use Rattle.std.proofs.lemmas.List.Folds.{list_any-append}
use Rattle.std.proofs.lemmas.List.Sorted.{IsPermutation-map}
use Rattle.std.proofs.lemmas.Map.Text.{is_eq-slice_cmp}
use Rattle.check_files.specs.Told.{Account, Hears, Tells, each}
use Rattle.check_files.proofs.Doing.{hears_nil, hears_trans}
use Rattle.fix_program.specs.Runs.{path_in}
use Rattle.shelves.specs.Shelf.{Named, Shelved}
use Rattle.spdx_commands.specs.Beside.{AreBeside, AreBesideTold, AreKnown, AreLeftIn, IsBesideOf, IsBesideTold, IsNoFile, TellsBeside, again, first, folder_of, has_folder, left_at, listed, no_file, none, one_more, text_cmp}
use Rattle.spdx_commands.specs.Mend.{worst}
use Rattle.spdx_commands.proofs.Doings.{worst_append}
use Rattle.spdx_troubles.specs.declared.trouble.Trouble.{Trouble}
use Rattle.spdx_troubles.specs.declared.trouble.Trouble.TheVariants as trouble

-- it is told of these paths, and of the folders that the set has
pub record AreBesideSoFar (s : Shelved) (known : BTreeSet (Bor (List ℕ))) (paths : List (List ℕ)) (told : List Trouble) : Type 0 where
  pub folders : List (List ℕ)
  pub are : AreBeside s paths folders told
  pub knows : AreKnown known folders

pub begun : (s : Shelved) (known : BTreeSet (Bor (List ℕ))) (heard : Account Trouble) → known.keys ≡ [] → Tells heard heard (AreBesideSoFar s known [])
begun s known heard empty = record {
  told = [];
  tells = hears_nil heard;
  is = record { folders = []; are = none; knows = λ x. ap (list_any (λ (k : Bor (List ℕ)). is_eq (text_cmp x k))) empty };
}

pub further : (s : Shelved) (old new : BTreeSet (Bor (List ℕ))) (paths : List (Bor (List ℕ))) (i : ℕ) (d : Bor (List ℕ)) (h k l : Account Trouble) → i < length paths
    → Tells h k (AreBesideSoFar s old (map path_in (take i paths)))
    → ((known : List (List ℕ)) → AreKnown old known → Tells k l (TellsBeside s old new known (get_or paths i d).now))
    → Tells h l (AreBesideSoFar s new (map path_in (take (i + 1) paths)))
further s old new paths i d h k l lt p step =
    let q = step p.is.folders p.is.knows in
    let path = (get_or paths i d).now in
    record {
      told = p.told ++ q.told;
      tells = hears_trans h k l p.told q.told p.tells q.tells;
      is = record {
        folders = p.is.folders ++ q.is.more;
        are = subst (λ (ps : List (List ℕ)). AreBeside s ps (p.is.folders ++ q.is.more) (p.told ++ q.told)) (sym (map_more path_in paths i d lt))
            (one_more (map path_in (take i paths)) p.is.folders q.is.more path p.told q.told p.is.are q.is.is);
        knows = q.is.keeps;
      };
    }

-- ---- the set

true_or : (x y : Bool) → cond x true y ≡ (y || x)
true_or true true = refl
true_or true false = refl
true_or false true = refl
true_or false false = refl

or_false : (y : Bool) → (y || false) ≡ y
or_false true = refl
or_false false = refl

-- one folder more
pub more_known : (old new : BTreeSet (Bor (List ℕ))) (folder : Bor (List ℕ)) (folders : List (List ℕ)) → AreKnown old folders
    → ((x : Bor (List ℕ)) → contains text_cmp new x ≡ cond (is_eq (text_cmp folder x)) true (contains text_cmp old x))
    → AreKnown new (folders ++ folder.now ∷ [])
more_known old new folder folders knows updates = λ x.
    updates x
    ∙ ap (λ (b : Bool). cond b true (contains text_cmp old x)) (is_eq-slice_cmp folder.now x.now)
    ∙ ap (λ (b : Bool). cond (bytes_eq folder.now x.now) true b) (knows x)
    ∙ true_or (bytes_eq folder.now x.now) (has_folder folders x.now)
    ∙ ap (λ (b : Bool). has_folder folders x.now || b) (sym (or_false (bytes_eq folder.now x.now)))
    ∙ sym (list_any-append (λ (f : List ℕ). bytes_eq f x.now) folders (folder.now ∷ []))

pub same_known : (known : BTreeSet (Bor (List ℕ))) (folders : List (List ℕ)) → AreKnown known folders → AreKnown known (folders ++ [])
same_known known folders knows = subst (AreKnown known) (sym (append-nil folders)) knows

-- ---- a path

-- no file is there
pub nothing_beside : (s : Shelved) (known : BTreeSet (Bor (List ℕ))) (folders : List (List ℕ)) (path : List ℕ) (heard : Account Trouble)
    → IsNoFile s path → AreKnown known folders → Tells heard heard (TellsBeside s known known folders path)
nothing_beside s known folders path heard absent knows =
    record { told = []; tells = hears_nil heard; is = record { more = []; is = no_file absent; keeps = same_known known folders knows } }

-- of its folder it is told already
pub told_already : (s : Shelved) (old new : BTreeSet (Bor (List ℕ))) (folders : List (List ℕ)) (path : List ℕ) (folder : Bor (List ℕ)) (heard : Account Trouble)
    → s.IsFolder path false → folder.now ≡ folder_of path → contains text_cmp old folder ≡ true → new.keys ≡ old.keys → AreKnown old folders
    → Tells heard heard (TellsBeside s old new folders path)
told_already s old new folders path folder heard is same has keys knows = record {
  told = [];
  tells = hears_nil heard;
  is = record {
    more = [];
    is = again is (ap (has_folder folders) (sym same) ∙ sym (knows folder) ∙ has);
    keeps = λ x. ap (list_any (λ (k : Bor (List ℕ)). is_eq (text_cmp x k))) keys ∙ same_known old folders knows x;
  };
}

-- it is told now
pub told_now : (s : Shelved) (old new : BTreeSet (Bor (List ℕ))) (folders : List (List ℕ)) (path : List ℕ) (folder : Bor (List ℕ)) (left : List (String Global)) (heard heard' : Account Trouble)
    → s.IsFolder path false → folder.now ≡ folder_of path → contains text_cmp old folder ≡ false
    → ((x : Bor (List ℕ)) → contains text_cmp new x ≡ cond (is_eq (text_cmp folder x)) true (contains text_cmp old x))
    → AreLeftIn s folder.now left → Hears heard heard' (map trouble.LeftBehind left) → AreKnown old folders
    → Tells heard heard' (TellsBeside s old new folders path)
told_now s old new folders path folder left heard heard' is same has updates are tells knows = record {
  told = map trouble.LeftBehind left;
  tells = tells;
  is = record {
    more = folder_of path ∷ [];
    is = first left is (ap (has_folder folders) (sym same) ∙ sym (knows folder) ∙ has) (subst (λ (f : List ℕ). AreLeftIn s f left) same are);
    keeps = subst (λ (f : List ℕ). AreKnown new (folders ++ f ∷ [])) same (more_known old new folder folders knows updates);
  };
}

pub no_longer : (b added : Bool) → added ≡ not b → added ≡ true → b ≡ false
no_longer true added e is = absurd (let bad : false ≡ true = sym e ∙ is in cc)
no_longer false added e is = refl

pub already : (b added : Bool) → added ≡ not b → added ≡ false → b ≡ true
already true added e is = refl
already false added e is = absurd (let bad : true ≡ false = sym e ∙ is in cc)

-- those in the folder, in order
pub in_order : (s : Shelved) (folder : List ℕ) (inside : List Named) (unnamed : ℕ) (found left : List (String Global)) → s.Lists folder inside unnamed
    → map string_bytes found ≡ flat_map (left_at folder) inside → IsPermutation found left → IsSorted string_cmp left → AreLeftIn s folder left
in_order s folder inside unnamed found left lists are moved ascend =
    listed inside unnamed lists (subst (λ (xs : List (List ℕ)). IsPermutation xs (map string_bytes left)) are (IsPermutation-map string_bytes found left moved)) ascend

-- ---- nothing of it changes a status

pub is_zero : (left : List (String Global)) → worst (map trouble.LeftBehind left) ≡ 0
is_zero [] = refl
is_zero (n ∷ ns) = let rest = is_zero ns in omega (arith, rest)

of_zero : (s : Shelved) (folders : List (List ℕ)) (path : List ℕ) (more : List (List ℕ)) (told : List Trouble) → IsBesideOf s folders path more told → worst told ≡ 0
of_zero s folders path more told (first left is has are) = is_zero left
of_zero s folders path more told (again is has) = refl
of_zero s folders path more told (no_file absent) = refl

all_zero : (s : Shelved) (paths folders : List (List ℕ)) (told : List Trouble) → AreBeside s paths folders told → worst told ≡ 0
all_zero s paths folders told none = refl
all_zero s paths folders told (one_more ps fs more path ts own are is) =
    let one = all_zero s ps fs ts are in
    let other = of_zero s fs path more own is in
    let both = worst_append ts own in
    omega (arith, one, other, both)

pub beside_zero : (w : Bool) (s : Shelved) (paths : List (List ℕ)) (told : List Trouble) → IsBesideTold w s paths told → worst told ≡ 0
beside_zero true s paths told h = all_zero s paths h.0 told h.1
beside_zero false s paths told h = ap worst h

-- ---- what is told of all of them

pub none_beside : (w : Bool) (s : Shelved) (paths : List (List ℕ)) (told : List Trouble) → w ≡ false → told ≡ [] → IsBesideTold w s paths told
none_beside w s paths told off empty = subst (λ (b : Bool). IsBesideTold b s paths told) (sym off) empty

pub all_beside : (w : Bool) (s : Shelved) (paths : List (List ℕ)) (told : List Trouble) → w ≡ true → Tells (each []) (each told) (AreBesideTold s paths) → IsBesideTold w s paths told
all_beside w s paths told on p = subst (λ (b : Bool). IsBesideTold b s paths told) (sym on) (subst (AreBesideTold s paths) (sym p.tells) p.is)
