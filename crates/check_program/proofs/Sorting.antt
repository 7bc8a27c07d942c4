-- The files of a folder of license texts, and why not all can be had.
use Rattle.std.proofs.Common.{◌≡◌, ◌∙◌, sym, ap, ℕ, List, [], ◌∷◌, ◌++◌, flat_map}
use Rattle.std.proofs.lemmas.Grind.{flat_map-append}
use Rattle.std.proofs.lemmas.List.{append-nil}
use Rattle.std.proofs.lemmas.List.Elements.{filter_map-append}
use Rattle.source_trees.specs.declared.walk.Seen.{Seen}
use Rattle.check_files.specs.declared.trouble.CheckTrouble.{CheckTrouble}
use Rattle.check_program.specs.Ends.{AreSortedOut, file_of}
use Rattle.check_program.specs.Steps.{listed, trouble_of}

pub none_sorted : (files : List (List ℕ)) (troubles : List CheckTrouble) → files ≡ [] → troubles ≡ [] → AreSortedOut [] files troubles
none_sorted files troubles no_file no_trouble = record { files_are = no_file; troubles_are = no_trouble }

-- one thing more is sorted out
pub one_more_sorted : (all : List Seen) (x : Seen) (files files' : List (List ℕ)) (troubles troubles' : List CheckTrouble) → AreSortedOut all files troubles
    → files' ≡ files ++ file_of x → troubles' ≡ troubles ++ listed (trouble_of x) → AreSortedOut (all ++ x ∷ []) files' troubles'
one_more_sorted all x files files' troubles troubles' h f t = record {
  files_are =
      f ∙ (ap (λ (fs : List (List ℕ)). fs ++ file_of x) h.files_are
      ∙ sym (flat_map-append file_of all (x ∷ []) ∙ ap (λ (fs : List (List ℕ)). flat_map file_of all ++ fs) (append-nil (file_of x))));
  troubles_are = t ∙ (ap (λ (ts : List CheckTrouble). ts ++ listed (trouble_of x)) h.troubles_are ∙ sym (filter_map-append trouble_of all (x ∷ [])));
}
