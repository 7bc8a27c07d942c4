-- What is passed over.
use Rattle.std.proofs.Common.{◌≡◌, refl, sym, inr, ℕ, Bool, true, List, [], ◌∷◌, Option, Result, Ok, Err, OnOk, subst}
use Rattle.std.specs.Prelude.{String, string_bytes}
use Rattle.std.specs.declared.alloc.Global.{Global}
use Rattle.std.specs.declared.io.Error.{Error}
use Rattle.line_engine.specs.Device.{Told}
use Rattle.shelves.specs.Shelf.{Shelved, to_read}
use Rattle.source_trees.specs.declared.reading.Taken.{Taken}
use Rattle.spdx_check.specs.declared.check.Check.{Check}
use Rattle.check_files.specs.declared.trouble.CheckTrouble.{CheckTrouble}
use Rattle.check_files.specs.declared.trouble.CheckTrouble.TheVariants as trouble
use Rattle.check_files.specs.Files.{IsFileStep, IsStepBy, is_wanted}
use Rattle.check_files.specs.Noted.{Notes}
use Rattle.check_files.specs.Passing.{IsPassed, PassesOver}
use Rattle.check_files.specs.Tally.{Tally}
use Rattle.check_files.specs.Told.{Account, Does}
use Rattle.check_files.proofs.Doing.{heard_alone}

pub on_ok : {A E : Type 0} (r : Result A E) (P Q : Type 0) → (P → Q) → OnOk r P → OnOk r Q
on_ok (Ok x) P Q f h = f h
on_ok (Err e) P Q f h = h

-- what can't be read is passed over
pub passed : (out : Told) (heard heard' : Account CheckTrouble) (name : List ℕ) (Fails : Error → Type 0) (old new : Tally) (n : String Global) (e : Error)
    → string_bytes n ≡ name → Fails e → PassesOver (trouble.Unreadable n e) heard heard' old new → Does out out heard heard' (λ text told. IsPassed name Fails old text told new)
passed out heard heard' name Fails old new n e named fails p =
    heard_alone out heard heard' (trouble.Unreadable n e ∷ []) (λ text told. IsPassed name Fails old text told new) p.tells
    (record { path = n; error = e; path_is = named; fails = fails; has_memory = p.has_memory; text_is = refl; told_is = refl; new_is = p.counts })

-- so it is with a file of which something is taken
pub file_passed : (out : Told) (heard heard' : Account CheckTrouble) (s : Shelved) (check : Check) (t : Taken) (folder : Option (List ℕ)) (path : List ℕ)
    (old new : Tally) (noted : Notes) (n : String Global) (e : Error) → is_wanted t path ≡ true
    → string_bytes n ≡ path → s.Fails to_read path e → PassesOver (trouble.Unreadable n e) heard heard' old new
    → Does out out heard heard' (λ text told. IsFileStep s check t folder path old noted text told new noted)
file_passed out heard heard' s check t folder path old new noted n e wanted named fails p =
    heard_alone out heard heard' (trouble.Unreadable n e ∷ []) (λ text told. IsFileStep s check t folder path old noted text told new noted) p.tells
    (subst (λ (b : Bool). IsStepBy b s check t folder path old noted [] (trouble.Unreadable n e ∷ []) new noted) (sym wanted)
    (inr (record { path = n; error = e; path_is = named; fails = fails; has_memory = p.has_memory; text_is = refl; told_is = refl; new_is = p.counts }, refl)))
