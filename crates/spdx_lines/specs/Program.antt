-- What the words and the catalogue's bytes of a program make.
use Rattle.std.specs.Prelude.{◌≡◌, ℕ, ◌+◌, ◌++◌, List, [], ◌∷◌, drop, map, true, false, Option, None, Some, Result, Ok, Err, if◌then◌else◌, codes, slice_get, ok_or, option_and_then, bytes_eq, MatchResult}
use Rattle.std.specs.Result.{result_map_both}
use Rattle.std.specs.Fmt.{decimal}
use Rattle.std.specs.Borrow.{Bor}
use Rattle.line_engine.specs.Rule.{Rule}
use Rattle.spdx_requirement.specs.Rows.{Rows}
use Rattle.spdx_requirement.specs.Items.{Requirement}
use Rattle.spdx_catalogue.specs.Reading.{catalogue_in}
use Rattle.spdx_catalogue.specs.Faults.{read_text}
use Rattle.spdx_catalogue.specs.declared.error.ReadFault.{ReadFault}
use Rattle.spdx_lexer.specs.Words.{Fault, Span}
use Rattle.spdx_licensee.specs.LicenseeText.{Names, IsLicenseeFault}
use Rattle.spdx_lines.specs.declared.lines.LineMode.{LineMode}
use Rattle.spdx_lines.specs.declared.lines.LineMode.TheVariants.{Strict, Lax, Normal}
use Rattle.spdx_lines.specs.declared.program.Task.{Task}
use Rattle.spdx_lines.specs.Verdict.{Verdict, IsTheVerdict, refusal_text}
use Rattle.spdx_lines.specs.Lines.{rule_by, rule_by_all}

-- why there is no run; licensees are counted from 1
pub data Refusal : Type 0 where
  Usage : Refusal
  Unreadable : Refusal
  NoCatalogue : ReadFault → Refusal
  NoLicensee : ℕ → Fault → Span → Refusal

abbrev pub texts_of : List (Bor (List ℕ)) → List (List ℕ)
texts_of words = map (λ (word : Bor (List ℕ)). word.now) words

-- ---- the mode word

abbrev pub read_task : List ℕ → Option Task
read_task text =
    if bytes_eq text (codes "strict") then Some (record { mode = Strict; is_joint = false }) else
    (if bytes_eq text (codes "lax") then Some (record { mode = Lax; is_joint = false }) else
    (if bytes_eq text (codes "strict-all") then Some (record { mode = Strict; is_joint = true })
    else
    (if bytes_eq text (codes "lax-all") then Some (record { mode = Lax; is_joint = true }) else
    (if bytes_eq text (codes "normal") then Some (record { mode = Normal; is_joint = false })
    else None))))

-- the second word names it
abbrev pub task_in : List (List ℕ) → Option Task
task_in texts = option_and_then read_task (slice_get texts 1)

-- ---- the licensees

-- this is the licensee, or the fault, and there is no other
pub record IsTheLicensee (c : Rows) (text : List ℕ)
    (r : Result Requirement (Fault × Span)) : Type 0 where
  pub given : MatchResult r (Names c text) (λ fault. IsLicenseeFault c text fault.0 fault.1)
  pub only_licensee : (req : Requirement) → Names c text req → r ≡ Ok req
  pub only_fault : (fault : Fault) (s : Span) → IsLicenseeFault c text fault s → r ≡ Err (fault, s)

-- ---- what is meant

-- what a licensee's text and a line mean
pub record Meaning : Type 0 where
  pub licensee : Rows → List ℕ → Result Requirement (Fault × Span)
  pub verdict : Rows → LineMode → List ℕ → Verdict

-- it is what the definitions say of each, and there is no other
pub record IsTheMeaning (by : Meaning) : Type 0 where
  pub licensees : (c : Rows) (text : List ℕ) → IsTheLicensee c text (by.licensee c text)
  pub verdicts : (c : Rows) (mode : LineMode) (line : List ℕ) →
      IsTheVerdict c mode line (by.verdict c mode line)

-- ---- what comes of it

-- what is made of the value; or else the refusal
abbrev pub and_then : {A B : Type 0} → Result A Refusal → (A → Result B Refusal) → Result B Refusal
and_then (Ok x) more = more x
and_then (Err refusal) more = Err refusal

-- all of the licensees, of which the first is the n-th, or the first that is refused
abbrev pub licensees_from : Meaning → Rows → ℕ → List (List ℕ) → Result (List Requirement) Refusal
licensees_from by c n [] = Ok []
licensees_from by c n (text ∷ texts) =
    and_then (result_map_both (λ req. req) (λ fault. NoLicensee n fault.0 fault.1)
    (by.licensee c text)) (λ req.
    and_then (licensees_from by c (n + 1) texts) (λ reqs.
    Ok (req ∷ reqs)))

-- the rule of this task, by the licensees that these words name
abbrev pub planned : Meaning → Rows → Task → List (List ℕ) → Result Rule Refusal
planned by c task texts =
    and_then (licensees_from by c 1 texts) (λ accepted.
    let verdict = by.verdict c task.mode in
    Ok (if task.is_joint then rule_by_all verdict accepted else rule_by verdict accepted))

-- The rule of a run: by the mode, the catalogue and the licensees that the words and the bytes
-- name. Or the first of them that is refused, in this order.
abbrev pub plan_of : Meaning → Option (Bor (List (Bor (List ℕ)))) → Option (Bor (List ℕ)) →
    Result Rule Refusal
plan_of by words catalogue =
    and_then (ok_or words Usage) (λ words.
    and_then (ok_or (task_in (texts_of words.now)) Usage) (λ task.
    and_then (ok_or catalogue Unreadable) (λ bytes.
    and_then (result_map_both (λ rows. rows) NoCatalogue (catalogue_in bytes.now)) (λ rows.
    planned by rows task (drop 2 (texts_of words.now))))))

-- ---- what is told of it

abbrev pub refusal_line : Refusal → List ℕ
refusal_line Usage =
    codes "usage: spdx_lines CATALOGUE strict|lax|strict-all|lax-all|normal [LICENSEE]..\n"
refusal_line Unreadable = codes "catalogue: unreadable\n"
refusal_line (NoCatalogue fault) = codes "catalogue: " ++ (read_text fault ++ 10 ∷ [])
refusal_line (NoLicensee n fault s) =
    codes "licensee " ++ (decimal n ++ (codes ": " ++ (refusal_text fault s ++ 10 ∷ [])))
