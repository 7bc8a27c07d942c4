-- The end of a folder.
use Rattle.std.proofs.Common.{◌≡◌, ◌⊎◌, inl, inr, ◌∙◌, refl, sym, ap, subst, ℕ, Bool, true, false, ◌||◌, List, [], ◌∷◌, ◌++◌, Option, None, is_some, map, String, string_bytes}
use Rattle.std.specs.IoError.{error_kind}
use Rattle.std.specs.List.{list_any}
use Rattle.std.specs.declared.alloc.Global.{Global}
use Rattle.std.specs.declared.io.Error.{Error}
use Rattle.std.specs.declared.io.ErrorKind.TheVariants.{OutOfMemory}
use Rattle.std.proofs.lemmas.Bool.{true≢false}
use Rattle.std.proofs.lemmas.List.{append-nil}
use Rattle.line_engine.specs.Device.{Told}
use Rattle.shelves.specs.Shelf.{Shelved, to_look}
use Rattle.source_trees.specs.Readings.{is_all}
use Rattle.source_trees.specs.declared.stops.Stop.{Stop}
use Rattle.source_trees.specs.Walks.{IsBegun}
use Rattle.spdx_check.specs.declared.check.Check.{Check}
use Rattle.check_sources.specs.Owed.{owed_by}
use Rattle.check_files.specs.declared.trouble.CheckTrouble.{CheckTrouble}
use Rattle.check_files.specs.declared.trouble.CheckTrouble.TheVariants as trouble
use Rattle.check_files.specs.Noted.{Notes, nothing_noted}
use Rattle.check_files.specs.Passing.{PassesOver, is_no_memory, is_of_memory, refuses_memory}
use Rattle.check_files.specs.Tally.{Tally, with_texts}
use Rattle.check_files.specs.Told.{Account, Does, Hears, Writes}
use Rattle.check_files.proofs.Doing.{both, heard_alone, known, nothing, written_alone}
use Rattle.check_program.specs.Ends.{AreOwed, AreTexts, AreTextsOr, AreWholes, IsBareStep, IsEnd, IsEndBy, IsTextsFolder, IsTextsStep, OwesTexts, are_none, left_trouble}
use Rattle.check_program.specs.Steps.{AreSteps, IsWalked, PassesAll}
use Rattle.check_program.specs.Trees.{IsTreeChecked, IsTreeStep, Manner}

pub no_memory : (e : Error) → error_kind e ≡ OutOfMemory → refuses_memory e ≡ true
no_memory e h = ap is_no_memory h

pub first_had : (b c : Bool) → (b || c) ≡ false → b ≡ false
first_had false c h = refl
first_had true c h = h

-- what can't be looked at is not for want of memory
pub had : (s : Shelved) (folder : List ℕ) (files : List (List ℕ)) (troubles : List CheckTrouble) → AreTextsOr s folder files troubles → list_any is_of_memory troubles ≡ false → AreTexts s folder files troubles
had s folder files troubles (inl x) h = x
had s folder files troubles (inr x) h =
    let u = x.2 in
    let none = first_had (refuses_memory x.0) false (subst (λ (ts : List CheckTrouble). list_any is_of_memory ts ≡ false) u.troubles_are h) in
    absurd (true≢false (sym (no_memory x.0 x.1) ∙ none))

-- so it is with those that are told
had_owed : (s : Shelved) (check : Check) (folder : List ℕ) (used files : List (List ℕ)) (troubles : List CheckTrouble) (old : Tally) (text : List ℕ) (told : List CheckTrouble) (new : Tally)
    → AreTextsOr s folder files troubles → AreOwed check folder used files troubles old text told new → AreTexts s folder files troubles
had_owed s check folder used files [] old text told new (inl x) h = x
had_owed s check folder used files [] old text told new (inr x) h = absurd (true≢false (ap are_none x.2.troubles_are))
had_owed s check folder used files (t ∷ ts) old text told new x h = had s folder files (t ∷ ts) x h.have_memory

-- what is owed of these texts is told
pub owed : (s : Shelved) (check : Check) (folder : List ℕ) (used files : List (List ℕ)) (troubles : List CheckTrouble) (out out' : Told) (heard heard' : Account CheckTrouble) (old new : Tally)
    → AreTextsOr s folder files troubles → Does out out' heard heard' (λ text told. AreOwed check folder used files troubles old text told new)
    → Does out out' heard heard' (λ text told. OwesTexts s check folder used old text told new)
owed s check folder used files troubles out out' heard heard' old new texts d =
    known out out' heard heard' (λ text told. AreOwed check folder used files troubles old text told new) (λ text told. OwesTexts s check folder used old text told new) d
    (λ text told h. record { files = files; troubles = troubles; texts = had_owed s check folder used files troubles old text told new texts h; owed = h })

-- why not all can be had is told
pub owed_passed : (check : Check) (folder : List ℕ) (used files : List (List ℕ)) (troubles : List CheckTrouble) (out : Told) (heard heard' : Account CheckTrouble) (old new : Tally)
    → are_none troubles ≡ false → PassesAll troubles heard heard' old new → Does out out heard heard' (λ text told. AreOwed check folder used files troubles old text told new)
owed_passed check folder used files [] out heard heard' old new some p = absurd (true≢false some)
owed_passed check folder used files (t ∷ ts) out heard heard' old new some p =
    heard_alone out heard heard' (t ∷ ts) (λ text told. AreOwed check folder used files (t ∷ ts) old text told new) p.tells
    (record { text_is = refl; told_is = refl; new_is = p.counts; have_memory = p.have_memory })

-- all can be had
pub owed_put : (check : Check) (folder : List ℕ) (used files : List (List ℕ)) (troubles : List CheckTrouble) (out out' : Told) (heard : Account CheckTrouble) (old new : Tally)
    → are_none troubles ≡ true → Writes out out' (λ text. AreWholes check (owed_by folder used files) with_texts old text new)
    → Does out out' heard heard (λ text told. AreOwed check folder used files troubles old text told new)
owed_put check folder used files (t ∷ ts) out out' heard old new none d = absurd (true≢false (sym none))
owed_put check folder used files [] out out' heard old new none d =
    written_alone out out' heard (λ text. AreWholes check (owed_by folder used files) with_texts old text new) (λ text told. AreOwed check folder used files [] old text told new) d
    (λ text x. (x, refl))

-- there is no folder of texts
pub no_texts : (s : Shelved) (check : Check) (folder : Option (List ℕ)) (used : List (List ℕ)) (out : Told) (heard : Account CheckTrouble) (old : Tally) → folder ≡ None
    → Does out out heard heard (λ text told. IsTextsStep s check folder used old text told old)
no_texts s check folder used out heard old is =
    subst (λ (f : Option (List ℕ)). Does out out heard heard (λ text told. IsTextsStep s check f used old text told old)) (sym is)
    (nothing out heard (λ text told. IsTextsStep s check None used old text told old) (refl, refl, refl))

-- what runs left is told alone
pub left_alone : (is : Bool) (s : Shelved) (check : Check) (is_told : Bool) (folder : Option (List ℕ)) (noted : Notes) (out : Told) (heard heard' : Account CheckTrouble) (old : Tally)
    → is ≡ false → Hears heard heard' (map left_trouble noted.left_behind) → Does out out heard heard' (λ text told. IsEnd is s check is_told folder noted old text told old)
left_alone is s check is_told folder noted out heard heard' old off h =
    heard_alone out heard heard' (map left_trouble noted.left_behind) (λ text told. IsEnd is s check is_told folder noted old text told old) h
    (record {
      behind = [];
      told_is = sym (append-nil (map left_trouble noted.left_behind));
      ends = subst (λ (b : Bool). IsEndBy b s check is_told folder noted old [] [] old) (sym off) (refl, refl, refl);
    })

-- texts and files without a license are told behind it
pub all_ended : (is : Bool) (s : Shelved) (check : Check) (is_told : Bool) (folder : Option (List ℕ)) (noted : Notes) (a b c : Told) (h k l : Account CheckTrouble) (old between new : Tally)
    → is ≡ true → Hears h k (map left_trouble noted.left_behind) → Does a b k l (λ text told. IsTextsStep s check folder noted.used old text told between)
    → Writes b c (λ text. IsBareStep is_told check (is_some folder) noted.untagged between text new) → Does a c h l (λ text told. IsEnd is s check is_told folder noted old text told new)
all_ended is s check is_told folder noted a b c h k l old between new on left texts bare =
    both a a c h k l (λ text told. (text ≡ []) × (told ≡ map left_trouble noted.left_behind)) (λ text told. IsEndBy true s check is_told folder noted old text told new)
    (λ text told. IsEnd is s check is_told folder noted old text told new)
    (heard_alone a h k (map left_trouble noted.left_behind) (λ text told. (text ≡ []) × (told ≡ map left_trouble noted.left_behind)) left (refl, refl))
    (both a b c k l l (λ text told. IsTextsStep s check folder noted.used old text told between) (λ text told. IsBareStep is_told check (is_some folder) noted.untagged between text new × (told ≡ []))
    (λ text told. IsEndBy true s check is_told folder noted old text told new) texts
    (written_alone b c l (λ text. IsBareStep is_told check (is_some folder) noted.untagged between text new)
    (λ text told. IsBareStep is_told check (is_some folder) noted.untagged between text new × (told ≡ [])) bare (λ text x. (x, refl)))
    (λ x xs y ys p q.
    subst (λ (ts : List CheckTrouble). IsEndBy true s check is_told folder noted old (x ++ y) ts new) (sym (append-nil xs) ∙ ap (λ (ts : List CheckTrouble). xs ++ ts) (sym q.1))
    (record { owed = x; bare = y; between = between; texts = p; files = q.0; text_is = refl })))
    (λ x xs y ys p q.
    subst (λ (t : List ℕ). IsEnd is s check is_told folder noted old (t ++ y) (xs ++ ys) new) (sym p.0)
    (record { behind = ys; told_is = ap (λ (ts : List CheckTrouble). ts ++ ys) p.1; ends = subst (λ (b : Bool). IsEndBy b s check is_told folder noted old y ys new) (sym on) q }))

-- all that is below a folder, and its end
pub tree_checked : (s : Shelved) (check : Check) (m : Manner) (path : List ℕ) (folder : Option (List ℕ)) (stops : List Stop) (noted noted' : Notes) (a b c : Told) (h k l : Account CheckTrouble)
    (old between new : Tally) → IsTextsFolder s m.texts path folder → noted ≡ nothing_noted → IsWalked s check m.taken folder stops old noted a b h k between noted'
    → Does b c k l (λ text told. IsEnd (is_all m.taken) s check m.untagged folder noted' between text told new) → IsBegun s path stops
    → Does a c h l (λ text told. IsTreeChecked s check m path old text told new)
tree_checked s check m path folder stops noted noted' a b c h k l old between new texts none w e begun =
    both a b c h k l (λ text told. AreSteps s check m.taken folder w.all old noted text told between noted')
    (λ text told. IsEnd (is_all m.taken) s check m.untagged folder noted' between text told new) (λ text told. IsTreeChecked s check m path old text told new) w.does e
    (λ x xs y ys p q. record {
      folder = folder;
      all = w.all;
      within = x;
      within_told = xs;
      between = between;
      noted = noted';
      behind = y;
      behind_told = ys;
      folder_is = texts;
      sees = (stops, begun, w.sees);
      steps = subst (λ (n : Notes). AreSteps s check m.taken folder w.all old n x xs between noted') none p;
      ends = q;
      text_is = refl;
      told_is = refl;
    })

-- the folder can't be looked at
pub tree_passed : (s : Shelved) (check : Check) (m : Manner) (path : List ℕ) (n : String Global) (e : Error) (out : Told) (heard heard' : Account CheckTrouble) (old new : Tally)
    → string_bytes n ≡ path → s.Fails to_look path e ⊎ (error_kind e ≡ OutOfMemory) → PassesOver (trouble.Unreadable n e) heard heard' old new
    → Does out out heard heard' (λ text told. IsTreeStep s check m path old text told new)
tree_passed s check m path n e out heard heard' old new named (inr f) p = absurd (true≢false (sym (no_memory e f) ∙ p.has_memory))
tree_passed s check m path n e out heard heard' old new named (inl f) p =
    heard_alone out heard heard' (trouble.Unreadable n e ∷ []) (λ text told. IsTreeStep s check m path old text told new) p.tells
    (inr (record { path = n; error = e; path_is = named; fails = f; has_memory = p.has_memory; text_is = refl; told_is = refl; new_is = p.counts }))
