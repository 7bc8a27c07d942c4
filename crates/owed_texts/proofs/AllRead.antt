-- The files of packages, of one package more.
use Rattle.std.proofs.Common.{◌≡◌, List, [], ◌∷◌, ◌++◌, map, ◌∙◌, ap, sym, subst, append_assoc}
use Rattle.std.specs.Global.{Vec}
use Rattle.std.proofs.lemmas.List.{append-nil, map-append}
use Rattle.shelves.specs.Shelf.{Shelved}
use Rattle.owed_texts.specs.declared.trouble.TextTrouble.{TextTrouble}
use Rattle.owed_texts.specs.declared.all.AllOwn.{AllOwn}
use Rattle.owed_texts.specs.declared.own.OwnFiles.{OwnFiles}
use Rattle.owed_texts.specs.declared.own.Reading.{Reading}
use Rattle.owed_texts.specs.declared.own.ReadFile.{ReadFile}
use Rattle.owed_texts.specs.All.{AreAllOwn, none, next, reads_in, reads_of}
use Rattle.owed_texts.specs.Own.{AreOwn, Owner, Read}

push : (s : Shelved) (a : Reading) (x : Owner) (own : OwnFiles) {xs : List Owner} {files : List (List Read)} {lacking : List TextTrouble} → AreOwn s a x own → AreAllOwn s a xs files lacking
    → AreAllOwn s a (xs ++ x ∷ []) (files ++ reads_of own.files ∷ []) (lacking ++ own.lacking.items)
push s a x own is none =
    subst (λ (ls : List TextTrouble). AreAllOwn s a (x ∷ []) (reads_of own.files ∷ []) ls) (append-nil own.lacking.items) (next x own is none)
push s a x own is (next {xs = xs} {files = files} {lacking = lacking} y o h rest) =
    subst (λ (ls : List TextTrouble). AreAllOwn s a (y ∷ xs ++ x ∷ []) (reads_of o.files ∷ files ++ reads_of own.files ∷ []) ls) (sym (append_assoc o.lacking.items lacking own.lacking.items))
    (next y o h (push s a x own is rest))

pub one_more : (s : Shelved) (a : Reading) (x : Owner) (own : OwnFiles) (old new : AllOwn) (xs : List Owner) → AreAllOwn s a xs (reads_in old.files.items) old.lacking.items → AreOwn s a x own
    → new.files.items ≡ old.files.items ++ own.files ∷ [] → new.lacking.items ≡ old.lacking.items ++ own.lacking.items → AreAllOwn s a (xs ++ x ∷ []) (reads_in new.files.items) new.lacking.items
one_more s a x own old new xs before is fs ls =
    subst (λ (t : List TextTrouble). AreAllOwn s a (xs ++ x ∷ []) (reads_in new.files.items) t) (sym ls)
    (subst (λ (z : List (List Read)). AreAllOwn s a (xs ++ x ∷ []) z (old.lacking.items ++ own.lacking.items)) (sym (ap reads_in fs ∙ map-append reads_of old.files.items (own.files ∷ [])))
    (push s a x own is before))

pub none_yet : (s : Shelved) (a : Reading) (all : AllOwn) → all.files.items ≡ [] → all.lacking.items ≡ [] → AreAllOwn s a [] (reads_in all.files.items) all.lacking.items
none_yet s a all fs ls =
    subst (λ (t : List TextTrouble). AreAllOwn s a [] (reads_in all.files.items) t) (sym ls)
    (subst (λ (z : List (Vec ReadFile)). AreAllOwn s a [] (reads_in z) []) (sym fs) none)
