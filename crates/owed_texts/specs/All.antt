-- The texts that all packages have of their own.
use Rattle.std.specs.Prelude.{List, [], ◌∷◌, ◌++◌, map}
use Rattle.std.specs.Global.{Vec}
use Rattle.shelves.specs.Shelf.{Shelved}
use Rattle.owed_texts.specs.declared.trouble.TextTrouble.{TextTrouble}
use Rattle.owed_texts.specs.declared.all.AllOwn.{AllOwn}
use Rattle.owed_texts.specs.declared.own.OwnFiles.{OwnFiles}
use Rattle.owed_texts.specs.declared.own.Reading.{Reading}
use Rattle.owed_texts.specs.declared.own.ReadFile.{ReadFile}
use Rattle.owed_texts.specs.Own.{AreOwn, Owner, Read, read_of}

abbrev pub reads_of : Vec ReadFile → List Read
reads_of files = map read_of files.items

abbrev pub reads_in : List (Vec ReadFile) → List (List Read)
reads_in all = map reads_of all

-- the files of each of the packages, and the troubles of all of them, in their order
pub data AreAllOwn (s : Shelved) (a : Reading) :
    List Owner → List (List Read) → List TextTrouble → Type 0 where
  none : AreAllOwn s a [] [] []
  next : {xs : List Owner} {files : List (List Read)} {lacking : List TextTrouble} (x : Owner)
      (own : OwnFiles) → AreOwn s a x own → AreAllOwn s a xs files lacking →
      AreAllOwn s a (x ∷ xs) (reads_of own.files ∷ files) (own.lacking.items ++ lacking)

-- one package more
abbrev pub IsOneMore : Shelved → Reading → Owner → AllOwn → AllOwn → Type 0
IsOneMore s a x old new =
    (xs : List Owner) → AreAllOwn s a xs (reads_in old.files.items) old.lacking.items →
    AreAllOwn s a (xs ++ x ∷ []) (reads_in new.files.items) new.lacking.items
