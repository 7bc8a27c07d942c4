-- How a program that has not come to its end may end, where what it has to tell finds no memory.
use Rattle.std.proofs.Common.{◌≡◌, ℕ, ◌-◌, ◌≤◌, drop, take, length, ap, ◌∙◌, arith, OnOk, OnErr, Bool, true, false, Option, Some, None, List, [], ◌∷◌, Result, Ok, Err, refl, sym, subst, append-nil}
use Rattle.std.proofs.lemmas.Bool.{false≢true}
use Rattle.std.specs.Borrow.{Bor}
use Rattle.std.specs.Prelude.{if◌then◌else◌, ok_or}
use Rattle.std.specs.Result.{IsErrAnd, result_map_both}
use Rattle.std.specs.Io.KnownBytes.{Keeps, Appends, Consumes}
use Rattle.line_engine.specs.declared.lines.Summary.{Summary}
use Rattle.line_engine.specs.declared.lines.RunFault.{RunFault}
use Rattle.line_engine.specs.declared.lines.RunFault.TheVariants.{Read, Write, Memory}
use Rattle.line_engine.specs.Device.{Told, Devices, devices}
use Rattle.line_engine.specs.Rule.{Rule}
use Rattle.line_engine.specs.Output.{output_of}
use Rattle.line_engine.specs.Progress.{HasBegun, HasRun}
use Rattle.line_engine.specs.Runs.{Runs}
use Rattle.spdx_requirement.specs.Rows.{Rows}
use Rattle.spdx_requirement.specs.Items.{Requirement}
use Rattle.spdx_catalogue.specs.declared.error.ReadFault.{ReadFault}
use Rattle.spdx_lines.specs.declared.program.Stop.{Stop}
use Rattle.spdx_lines.specs.declared.program.Task.{Task}
use Rattle.spdx_lines.specs.declared.program.Stop.TheVariants as stop
use Rattle.spdx_catalogue.specs.Reading.{catalogue_in}
use Rattle.spdx_lines.specs.Program.{Refusal, Usage, Unreadable, NoCatalogue, texts_of, task_in, and_then, licensees_from, planned, plan_of}
use Rattle.spdx_lines.specs.Found.{found, rule_of, rule_of_all}
use Rattle.spdx_lines.specs.Ending.{HasMovedNothing, fault_line, Ends, done, broken, refused, short, short_of_all, stop_status, stop_line, EndsBy, StopsAt}

pub keeps_all : (old : Option (List ℕ)) → Keeps old old
keeps_all None = tt
keeps_all (Some bytes) = refl

pub appends_nothing : (old : Option (List ℕ)) → Appends old old []
appends_nothing None = tt
appends_nothing (Some bytes) = sym (append-nil bytes)

consumes_nothing : (old new : Option (List ℕ)) → Keeps old new → Consumes old new []
consumes_nothing None new h = tt
consumes_nothing (Some bytes) None h = absurd h
consumes_nothing (Some bytes) (Some others) h = sym h

appends_none : (old new : Option (List ℕ)) → Keeps old new → Appends old new []
appends_none None new h = tt
appends_none (Some bytes) None h = absurd h
appends_none (Some bytes) (Some others) h = h ∙ sym (append-nil bytes)

-- nothing was read yet
begun_nothing : (rule : Rule) (d : Devices) → HasMovedNothing d → HasBegun rule d
begun_nothing rule d h = record {
  bytes = [];
  read = consumes_nothing d.input.bytes d.input'.bytes h.0;
  is_ended = false;
  ended = λ e. absurd (false≢true e);
  written = record { begun = []; others = []; whole = refl; appended = appends_none d.output.bytes d.output'.bytes h.1 };
}

-- memory was wanted before the run
early_by : (plan : Result Rule Refusal) (d : Devices) → HasMovedNothing d → (known : Result Rule Refusal) → plan ≡ known → Ends plan d 3 (fault_line Memory)
early_by plan d h (Ok rule) e = short e (begun_nothing rule d h)
early_by plan d h (Err refusal) e = short_of_all e h

early : (plan : Result Rule Refusal) (d : Devices) → HasMovedNothing d → Ends plan d 3 (fault_line Memory)
early plan d h = early_by plan d h plan refl

-- ---- the plan, step by step

abbrev rule_for : Rows → Task → List Requirement → Rule
rule_for c task accepted = if task.is_joint then rule_of_all c task.mode accepted else rule_of c task.mode accepted

abbrev by_licensees : Rows → Task → Result (List Requirement) Refusal → Result Rule Refusal
by_licensees c task r = and_then r (λ accepted. Ok (rule_for c task accepted))

abbrev pub by_rows : Task → List (List ℕ) → Result Rows ReadFault → Result Rule Refusal
by_rows task texts r = and_then (result_map_both (λ rows. rows) NoCatalogue r) (λ rows. planned found rows task texts)

abbrev by_bytes : Task → List (List ℕ) → Option (Bor (List ℕ)) → Result Rule Refusal
by_bytes task texts catalogue = and_then (ok_or catalogue Unreadable) (λ bytes. by_rows task texts (catalogue_in bytes.now))

abbrev by_task : List (List ℕ) → Option Task → Option (Bor (List ℕ)) → Result Rule Refusal
by_task texts t catalogue = and_then (ok_or t Usage) (λ task. by_bytes task (drop 2 texts) catalogue)

pub plan_is : (words : Option (Bor (List (Bor (List ℕ))))) (catalogue : Option (Bor (List ℕ))) (w : Bor (List (Bor (List ℕ)))) (task : Task) (b : Bor (List ℕ)) (r : Result Rows ReadFault) →
    words ≡ Some w → task_in (texts_of w.now) ≡ Some task → catalogue ≡ Some b → catalogue_in b.now ≡ r → plan_of found words catalogue ≡ by_rows task (drop 2 (texts_of w.now)) r
plan_is words catalogue w task b r p q s t =
    ap (λ x. plan_of found x catalogue) p
    ∙ ap (λ x. by_task (texts_of w.now) x catalogue) q
    ∙ ap (λ x. by_bytes task (drop 2 (texts_of w.now)) x) s
    ∙ ap (λ x. by_rows task (drop 2 (texts_of w.now)) x) t

-- a run of the rule that is planned
pub ran : (c : Rows) (task : Task) (texts : List (List ℕ)) (accepted : List Requirement) (d : Devices) (result : Result Summary RunFault) → licensees_from found c 1 texts ≡ Ok accepted →
    Runs (rule_for c task accepted) d result → EndsBy (planned found c task texts) d (result_map_both (λ summary. summary) stop.Run result)
ran c task texts accepted d (Ok summary) e h = done (ap (by_licensees c task) e) h
ran c task texts accepted d (Err fault) e h = broken (ap (by_licensees c task) e) h

-- the licensees are refused, or memory was wanted for them
stops_before : (c : Rows) (task : Task) (texts : List (List ℕ)) (d : Devices) → HasMovedNothing d → (s : Stop) → StopsAt (licensees_from found c 1 texts) s →
    Ends (planned found c task texts) d (stop_status s) (stop_line s)
stops_before c task texts d moved stop.Usage h = refused (ap (by_licensees c task) h) moved
stops_before c task texts d moved stop.Unreadable h = refused (ap (by_licensees c task) h) moved
stops_before c task texts d moved (stop.Catalogue fault) h = refused (ap (by_licensees c task) h) moved
stops_before c task texts d moved (stop.Licensee n error) h = refused (ap (by_licensees c task) h) moved
stops_before c task texts d moved (stop.Run Read) h = absurd h
stops_before c task texts d moved (stop.Run Write) h = absurd h
stops_before c task texts d moved (stop.Run Memory) h = early (planned found c task texts) d moved

-- devices that nothing was asked of
abbrev still : Told → Told → Devices
still input output = devices input input output output

pub still_moved : (input output : Told) → HasMovedNothing (still input output)
still_moved input output = (keeps_all input.bytes, keeps_all output.bytes)

-- such a stop is handed on
pub stopped_early : (c : Rows) (task : Task) (texts : List (List ℕ)) (input output : Told) (r : Result Summary Stop) (s : Stop) →
    IsErrAnd r (λ t. t ≡ s) → StopsAt (licensees_from found c 1 texts) s → EndsBy (planned found c task texts) (still input output) r
stopped_early c task texts input output (Ok summary) s is h = absurd is
stopped_early c task texts input output (Err t) s is h =
    subst (λ x. Ends (planned found c task texts) (still input output) (stop_status x) (stop_line x)) (sym is)
    (stops_before c task texts (still input output) (still_moved input output) s h)

pub memory_wanted : (plan : Result Rule Refusal) (input output : Told) (s : Stop) → s ≡ stop.Run Memory → Ends plan (still input output) (stop_status s) (stop_line s)
memory_wanted plan input output s is =
    subst (λ x. Ends plan (still input output) (stop_status x) (stop_line x)) (sym is) (early plan (still input output) (still_moved input output))

-- ---- what the words say

-- no words, a word that names no task, and no catalogue
pub no_words : (words : Option (Bor (List (Bor (List ℕ))))) (catalogue : Option (Bor (List ℕ))) → ((w : Bor (List (Bor (List ℕ)))) → words ≡ Some w → ⊥) → plan_of found words catalogue ≡ Err Usage
no_words None catalogue h = refl
no_words (Some w) catalogue h = absurd (h w refl)

pub no_task : (words : Option (Bor (List (Bor (List ℕ))))) (catalogue : Option (Bor (List ℕ))) (w : Bor (List (Bor (List ℕ)))) (t : Option Task) →
    words ≡ Some w → task_in (texts_of w.now) ≡ t → ((task : Task) → t ≡ Some task → ⊥) → plan_of found words catalogue ≡ Err Usage
no_task words catalogue w None p q h = ap (λ x. plan_of found x catalogue) p ∙ ap (λ x. by_task (texts_of w.now) x catalogue) q
no_task words catalogue w (Some task) p q h = absurd (h task refl)

pub no_catalogue : (words : Option (Bor (List (Bor (List ℕ))))) (catalogue : Option (Bor (List ℕ))) (w : Bor (List (Bor (List ℕ)))) (task : Task) →
    words ≡ Some w → task_in (texts_of w.now) ≡ Some task → ((b : Bor (List ℕ)) → catalogue ≡ Some b → ⊥) → plan_of found words catalogue ≡ Err Unreadable
no_catalogue words None w task p q h = ap (λ x. plan_of found x None) p ∙ ap (λ x. by_task (texts_of w.now) x None) q
no_catalogue words (Some b) w task p q h = absurd (h b refl)

-- the word that names the task is the second
pub two_words : (words : List (Bor (List ℕ))) (task : Task) → task_in (texts_of words) ≡ Some task → 2 ≤ length words
two_words [] task e = absurd cc
two_words (v ∷ []) task e = absurd cc
two_words (v ∷ w ∷ words) task e = omega arith

take_all : {A : Type 0} (xs : List A) → take (length xs) xs ≡ xs
take_all [] = refl
take_all (x ∷ xs) = ap (λ ys. x ∷ ys) (take_all xs)

-- the licensees are the words from the third on
pub words_behind : (words : List (Bor (List ℕ))) → drop 2 (texts_of words) ≡ texts_of (take (length words - 2) (drop 2 words))
words_behind [] = refl
words_behind (v ∷ []) = refl
words_behind (v ∷ w ∷ words) =
    let left : length (v ∷ w ∷ words) - 2 ≡ length words = omega arith in
    sym (ap (λ n. texts_of (take n words)) left ∙ ap texts_of (take_all words))

-- ---- what is told, unless the device has failed

pub unless_failed : {T E : Type 0} (r : Result T E) (P : Type 0) (b : Bool) → OnOk r P → OnErr r (b ≡ true) → b ≡ false → P
unless_failed (Ok x) P b p q n = p
unless_failed (Err e) P b p q n = absurd (false≢true (sym n ∙ q))

-- ---- memory is wanted for the line

begun_all : (rule : Rule) (d : Devices) (summary : Summary) → HasRun rule d summary → HasBegun rule d
begun_all rule d summary h = record {
  bytes = h.bytes;
  read = h.read;
  is_ended = true;
  ended = λ _. h.ended;
  written = record { begun = output_of rule h.bytes; others = []; whole = sym (append-nil (output_of rule h.bytes)); appended = h.written };
}

-- however it ended, memory was wanted then
pub falls_short : (plan : Result Rule Refusal) (d : Devices) (status : ℕ) (line : List ℕ) → Ends plan d status line → Ends plan d 3 (fault_line Memory)
falls_short plan d _ _ (done e h) = short e (begun_all _ d _ h.ok)
falls_short plan d _ _ (broken e h) = short e h.begun
falls_short plan d _ _ (refused e h) = short_of_all e h
falls_short plan d _ _ (short e h) = short e h
falls_short plan d _ _ (short_of_all e h) = short_of_all e h
