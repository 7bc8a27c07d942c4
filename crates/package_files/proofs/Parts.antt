-- What is listed, of its parts.
use Rattle.std.proofs.Common.{◌≡◌, ℕ, Bool, true, false, List, [], ◌∷◌, ◌∙◌, map, refl, sym, ap, Ok}
use Rattle.std.specs.Prelude.{None, cond, filter, string_bytes}
use Rattle.std.specs.Char.{is_ascii_whitespace}
use Rattle.std.specs.List.{list_all}
use Rattle.std.proofs.lemmas.Bool.{cond-true, cond-false}
use Rattle.std.proofs.lemmas.List.{length-map}
use Rattle.package_items.specs.Rows.{row_of}
use Rattle.shelves.specs.Shelf.{Shelved}
use Rattle.package_files.specs.declared.fault.FileFault.{FileFault}
use Rattle.package_files.specs.declared.fault.FileFault.TheVariants as fault
use Rattle.package_files.specs.declared.listed.Listed.{Listed}
use Rattle.package_files.specs.declared.listed.Source.{Source}
use Rattle.package_files.specs.declared.listed.Wanted.{Wanted}
use Rattle.package_files.specs.Faults.{IsEmptyOf, IsNotEarlier, IsNotListed, IsNotRead}
use Rattle.shelves.specs.AtPath.{IsContent, told_path}
use Rattle.package_files.specs.Listed.{IsEarlier, IsListedAt, IsReadFrom, Passes, source_before, wanted_of}
use Rattle.package_files.specs.Reading.{read}

kept : {X Y : Type 0} (h : Y → X) (b : Bool) (y : Y) (ys : List Y) → map h (cond b (y ∷ ys) ys) ≡ cond b (h y ∷ map h ys) (map h ys)
kept h true y ys = refl
kept h false y ys = refl

pub filter-map : {X Y : Type 0} (p : X → Bool) (h : Y → X) (ys : List Y) → map h (filter (λ y. p (h y)) ys) ≡ filter p (map h ys)
filter-map p h [] = refl
filter-map {X} p h (y ∷ ys) = kept h (p (h y)) y (filter (λ z. p (h z)) ys) ∙ ap (λ (z : List X). cond (p (h y)) (h y ∷ z) z) (filter-map p h ys)

pub listed : (s : Shelved) (w : Wanted) (path bytes : List ℕ) (all out : Listed) → IsContent s path bytes → IsReadFrom w.source (told_path path) bytes all → Passes w all.packages.items
    → out.path ≡ all.path → out.guessed ≡ all.guessed → map row_of out.packages.items ≡ wanted_of w (map row_of all.packages.items) → IsListedAt s w path out
listed s w path bytes all out content is passes same_path same_form packages = record {
  bytes = bytes;
  rows = map row_of all.packages.items;
  content = content;
  reads = is.reads ∙ ap (λ g. Ok (g, map row_of all.packages.items)) (sym same_form);
  path_is = ap string_bytes same_path ∙ is.path_is;
  packages_are = packages;
  lists_some = λ must none. passes must (sym (length-map all.packages.items row_of) ∙ none);
}

pub empty : (s : Shelved) (w : Wanted) (path bytes : List ℕ) (all : Listed) (f : FileFault) → IsContent s path bytes → IsReadFrom w.source (told_path path) bytes all → IsEmptyOf w all f → IsNotListed s w path f
empty s w path bytes all (fault.Empty n) content is none = (
  ap string_bytes none.0 ∙ is.path_is,
  record {
    bytes = bytes;
    guessed = all.guessed;
    wanted = none.1;
    content = content;
    reads = is.reads ∙ ap (λ ps. Ok (all.guessed, map row_of ps)) none.2;
  },
)
empty s w path bytes all fault.Memory content is none = absurd none
empty s w path bytes all (fault.Unreadable n e) content is none = absurd none
empty s w path bytes all (fault.Source n f) content is none = absurd none

pub blank : (how : Source) (path bytes : List ℕ) (found : Listed) → list_all is_ascii_whitespace bytes ≡ true → string_bytes found.path ≡ path → found.guessed ≡ None → found.packages.items ≡ [] → IsEarlier how path bytes found
blank how path bytes found is path_is form none = record {
  reads = cond-true _ _ _ is ∙ ap (λ g. Ok (g, [])) (sym form) ∙ ap (λ ps. Ok (found.guessed, map row_of ps)) (sym none);
  path_is = path_is;
}

pub read_again : (how as_read : Source) (path bytes : List ℕ) (found : Listed) → list_all is_ascii_whitespace bytes ≡ false → as_read ≡ source_before how bytes → IsReadFrom as_read path bytes found → IsEarlier how path bytes found
read_again how as_read path bytes found not_blank same is = record {
  reads = cond-false _ _ _ not_blank ∙ ap (λ h. read h path bytes) (sym same) ∙ is.reads;
  path_is = is.path_is;
}

pub not_read_again : (how as_read : Source) (path bytes : List ℕ) (f : FileFault) → list_all is_ascii_whitespace bytes ≡ false → as_read ≡ source_before how bytes → IsNotRead as_read path bytes f → IsNotEarlier how path bytes f
not_read_again how as_read path bytes (fault.Source n f) not_blank same is = (is.0, cond-false _ _ _ not_blank ∙ ap (λ h. read h path bytes) (sym same) ∙ is.1)
not_read_again how as_read path bytes fault.Memory not_blank same is = is
not_read_again how as_read path bytes (fault.Unreadable n e) not_blank same is = absurd is
not_read_again how as_read path bytes (fault.Empty n) not_blank same is = absurd is
