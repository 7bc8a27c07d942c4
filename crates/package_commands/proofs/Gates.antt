-- What is said of a run is said by the command.
use Rattle.std.proofs.Common.{◌≡◌, ℕ, List, subst, sym}
use Rattle.changes_program.specs.Run as changes
use Rattle.changes_program.specs.declared.run.Run as changes_run
use Rattle.gate_program.specs.Run as gate
use Rattle.gate_program.specs.declared.run.Run as gate_run
use Rattle.list_program.specs.Named.{InsideBytes}
use Rattle.notice_program.specs.Run as notice
use Rattle.notice_program.specs.declared.end.Request.{Request}
use Rattle.notice_program.specs.declared.run.Run as notice_run
use Rattle.package_commands.specs.Changes.{IsDiff, IsDiffTold, SaysDiff}
use Rattle.package_commands.specs.Gate.{IsGate, IsGateTold, SaysGate}
use Rattle.package_commands.specs.Notice.{IsNotice, IsNoticeTold, SaysNotice}
use Rattle.package_commands.specs.declared.differences.DiffTask.{DiffTask}
use Rattle.package_commands.specs.declared.differences.DiffEnd.{DiffEnd}
use Rattle.package_commands.specs.declared.gated.GateTask.{GateTask}
use Rattle.package_commands.specs.declared.pages.NoticeEnd.{NoticeEnd}
use Rattle.shelves.specs.Shelf.{Shelved}
use Rattle.spdx_commands.specs.Said.{IsSaid, text_of, told_of}
use Rattle.spdx_commands.specs.declared.said.Said.{Said}
use Rattle.spdx_troubles.specs.declared.trouble.Trouble.{Trouble}

-- what holds of what is said holds of what is written and told
pub said_as : (s : Said) (Is : List ℕ → List Trouble → Type 0) → Is (text_of s) (told_of s) → (text : List ℕ) (told : List Trouble) → IsSaid s text told → Is text told
said_as s Is h text told is = subst (λ (x : List ℕ). Is x told) (sym is.0) (subst (Is (text_of s)) (sym is.1) h)

module _ (s : Shelved) (inside : InsideBytes) (replacements : List ℕ) (a : GateTask) (run : gate_run.Run) (said : Said) (status : ℕ) where
  pub says_gate : gate.IsRun s inside replacements a.run run → IsGateTold a run (text_of said) (told_of said) → status ≡ gate.status_of run → SaysGate s inside replacements a (text_of said) (told_of said)
  says_gate is told ends = (status, record { run = run; is_run = is; told_are = told; status_is = ends })

  pub gate_as : gate.IsRun s inside replacements a.run run → IsGateTold a run (text_of said) (told_of said) → status ≡ gate.status_of run → (text : List ℕ) (told : List Trouble) → IsSaid said text told
      → IsGate s inside replacements a text told status
  gate_as is told ends = said_as said (λ text told. IsGate s inside replacements a text told status) (record { run = run; is_run = is; told_are = told; status_is = ends })

module _ (s : Shelved) (inside : InsideBytes) (replacements : List ℕ) (a : DiffTask) (run : changes_run.Run) (said : Said) (c : DiffEnd) where
  pub says_diff : changes.IsRun s inside replacements a.run run → IsDiffTold a.tells_totals run (text_of said) (told_of said) c.totals → c.status ≡ changes.status_of run
      → SaysDiff s inside replacements a (text_of said) (told_of said)
  says_diff is told ends = (c, record { run = run; is_run = is; told_are = told; status_is = ends })

  pub diff_as : changes.IsRun s inside replacements a.run run → IsDiffTold a.tells_totals run (text_of said) (told_of said) c.totals → c.status ≡ changes.status_of run
      → (text : List ℕ) (told : List Trouble) → IsSaid said text told → IsDiff s inside replacements a text told c
  diff_as is told ends = said_as said (λ text told. IsDiff s inside replacements a text told c) (record { run = run; is_run = is; told_are = told; status_is = ends })

module _ (s : Shelved) (inside : InsideBytes) (replacements : List ℕ) (a : Request) (run : notice_run.Run) (said : Said) (n : NoticeEnd) where
  pub says_notice : notice.IsRun s inside replacements a run → IsNoticeTold a run (text_of said) (told_of said) n.totals → n.status ≡ notice.status_of run
      → SaysNotice s inside replacements a (text_of said) (told_of said)
  says_notice is told ends = (n, record { run = run; is_run = is; told_are = told; status_is = ends })

  pub notice_as : notice.IsRun s inside replacements a run → IsNoticeTold a run (text_of said) (told_of said) n.totals → n.status ≡ notice.status_of run
      → (text : List ℕ) (told : List Trouble) → IsSaid said text told → IsNotice s inside replacements a text told n
  notice_as is told ends = said_as said (λ text told. IsNotice s inside replacements a text told n) (record { run = run; is_run = is; told_are = told; status_is = ends })
