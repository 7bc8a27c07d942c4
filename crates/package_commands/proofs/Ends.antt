-- What is said of a run.
use Rattle.std.proofs.Common.{◌≡◌, ◌↔◌, ◌∙◌, ℕ, Bool, true, false, List, [], ◌∷◌, ◌++◌, ap, append_assoc, arith, length, map, refl, suc, string_bytes, subst, sym}
use Rattle.std.specs.declared.alloc.Global.{Global}
use Rattle.std.proofs.lemmas.Bool.Decides.{nat_tests}
use Rattle.std.specs.Prelude.{◌==◌, Contains, Option, String, unwrap_or}
use Rattle.std.specs.Borrow.{Bor}
use Rattle.std.specs.List.Sorted.{IsStrictlySortedBy}
use Rattle.std.specs.Option.{option_copied}
use Rattle.check_files.specs.Told.{Account, Hears, Tells, each}
use Rattle.check_files.proofs.Doing.{hears_nil, hears_trans}
use Rattle.package_files.specs.Documents.{Shared, text_cmp}
use Rattle.gate_program.specs.declared.run.End.{End}
use Rattle.gate_program.specs.declared.run.End.TheVariants as end
use Rattle.gate_program.specs.declared.run.Run.{Run}
use Rattle.gate_program.specs.declared.told.GateText.{GateText}
use Rattle.owed_texts.specs.Held.{name_in}
use Rattle.package_items.specs.Rows.{PackageRow}
use Rattle.package_files.specs.declared.listed.Listed.{Listed}
use Rattle.package_files.specs.declared.listed.Source.{Source}
use Rattle.package_commands.specs.Forms.{AreFormsTold}
use Rattle.package_commands.specs.Gate.{AreBothTold, IsEndSaid, IsGateTold, IsReadTold}
use Rattle.package_commands.specs.Shared.{AreSharedTold, AreToldAs, documents_in, names_text}
use Rattle.package_commands.specs.declared.gated.GateTask.{GateTask}
use Rattle.spdx_commands.specs.Said.{text_of, told_of}
use Rattle.spdx_commands.specs.declared.said.Said.{Said}
use Rattle.spdx_troubles.specs.Causes.{file_trouble}
use Rattle.spdx_troubles.specs.declared.trouble.Trouble.{Trouble}
use Rattle.spdx_troubles.specs.declared.trouble.Trouble.TheVariants as trouble

-- ---- how files were read

pub quiet_told : (quiet : Bool) (how : Source) (files : List Listed) (heard : Account Trouble) → quiet ≡ true → Tells heard heard (IsReadTold quiet how files)
quiet_told quiet how files heard e =
    subst (λ (b : Bool). Tells heard heard (IsReadTold b how files)) (sym e) (record { told = []; tells = hears_nil heard; is = refl })

pub read_told : (quiet : Bool) (how : Source) (files : List Listed) (h l : Account Trouble) → quiet ≡ false → Tells h l (AreBothTold how files) → Tells h l (IsReadTold quiet how files)
read_told quiet how files h l e p = subst (λ (b : Bool). Tells h l (IsReadTold b how files)) (sym e) p

pub both_told : (how : Source) (files : List Listed) (h k l : Account Trouble) → Tells h k (AreFormsTold files) → Tells k l (AreSharedTold how files) → Tells h l (AreBothTold how files)
both_told how files h k l p q = record {
  told = p.told ++ q.told;
  tells = hears_trans h k l p.told q.told p.tells q.tells;
  is = record { forms = p.told; shared = q.told; forms_are = p.is; shared_are = q.is; told_are = refl };
}

-- ---- references

pub shared_told : (how : Source) (files : List Listed) (documents : List (List PackageRow)) (names : List (List ℕ)) (h l : Account Trouble) → documents ≡ documents_in how files
    → ((r : List ℕ) → Contains names r ↔ Shared documents r) → IsStrictlySortedBy text_cmp names → Tells h l (AreToldAs names) → Tells h l (AreSharedTold how files)
shared_told how files documents names h l are told ascend p = record {
  told = p.told;
  tells = p.tells;
  is = record {
    names = names;
    shared = record {
      told = subst (λ (ds : List (List PackageRow)). (r : List ℕ) → Contains names r ↔ Shared ds r) are told;
      ascend = ascend;
    };
    are = p.is;
  };
}

pub none_named : (names : List (Bor (List ℕ))) (heard : Account Trouble) → true ≡ (length names == 0) → Tells heard heard (AreToldAs (map name_in names))
none_named [] heard e = record { told = []; tells = hears_nil heard; is = refl }
none_named (n ∷ names) heard e =
    let test : (suc (length names) == 0) ≡ true = sym e in
    let none : suc (length names) ≡ 0 = grind (arith, nat_tests, test) in
    absurd (omega (arith, none))

pub some_named : (names : List (Bor (List ℕ))) (h l : Account Trouble) (text : String Global) → (names ≡ [] → ⊥) → string_bytes text ≡ names_text (map name_in names)
    → Hears h l (trouble.Shared text ∷ []) → Tells h l (AreToldAs (map name_in names))
some_named [] h l text some is tells = absurd (some refl)
some_named (n ∷ names) h l text some is tells = record { told = trouble.Shared text ∷ []; tells = tells; is = (text, is, refl) }

-- ---- what is said

-- where nothing was told before, all that is there was told of this
pub all_told : (xs : List Trouble) (Is : List Trouble → Type 0) → Tells (each []) (each xs) Is → Is xs
all_told xs Is p = subst Is (sym p.tells) p.is

-- what is told before the text: of files that are left out, and then of this
pub before_told : (faults : List Trouble) (mid last : List Trouble) (Is : List Trouble → Type 0) → Hears (each []) (each mid) faults → Tells (each mid) (each last) Is
    → (read : List Trouble) × Is read × (last ≡ faults ++ read)
before_told faults mid last Is first p = (p.told, p.is, p.tells ∙ ap (λ (l : List Trouble). l ++ p.told) first)

-- and behind it how it ends
pub told_all : (faults read before ended : List Trouble) (s : Said) → before ≡ faults ++ read → s.before.items ≡ before → s.after.items ≡ ended → told_of s ≡ faults ++ (read ++ ended)
told_all faults read before ended s is was ends =
    ap (λ (l : List Trouble). l ++ s.after.items) (was ∙ is) ∙ ap (λ (l : List Trouble). (faults ++ read) ++ l) ends ∙ append_assoc faults read ended

-- ---- `gate`

pub gate_told : (a : GateTask) (run : Run) (mid last : List Trouble) (s : Said) → Hears (each []) (each mid) (map file_trouble run.left_out.items)
    → Tells (each mid) (each last) (IsReadTold a.is_quiet a.run.wanted.source run.files.items) → IsEndSaid last (option_copied a.run.look.explain) run.end s
    → IsGateTold a run (text_of s) (told_of s)
gate_told a run mid last s first reads ends =
    let (read, are, is) = before_told (map file_trouble run.left_out.items) mid last (IsReadTold a.is_quiet a.run.wanted.source run.files.items) first reads in
    record {
      read = read;
      ended = s.after.items;
      read_are = are;
      ends = ends.ends;
      told_are = told_all (map file_trouble run.left_out.items) read last s.after.items s is ends.before_is refl;
    }

-- all is written, and it is told behind it that no package has the name
pub no_package_said : (before : List Trouble) (explain : Option (List ℕ)) (e : End) (x : GateText) (name : String Global) (s : Said) → e ≡ end.NoPackage x → s.before.items ≡ before
    → text_of s ≡ x.bytes.items → string_bytes name ≡ unwrap_or explain [] → s.after.items ≡ trouble.NoPackage name ∷ [] → IsEndSaid before explain e s
no_package_said before explain e x name s is was text named told =
    subst (λ (y : End). IsEndSaid before explain y s) (sym is) (record { before_is = was; ends = (text, (name, named, told)) })
