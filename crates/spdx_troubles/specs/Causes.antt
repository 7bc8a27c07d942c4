-- Which trouble a cause is.
use Rattle.std.specs.Prelude.{◌≡◌, ℕ, Bool, true, false, List, String, ◌==◌, if◌then◌else◌, string_bytes}
use Rattle.std.specs.declared.alloc.Global.{Global}
use Rattle.std.specs.Borrow.{Bor}
use Rattle.std.specs.List.{list_any}
use Rattle.std.specs.IoError.{error_kind}
use Rattle.std.specs.declared.io.Error.{Error}
use Rattle.std.specs.declared.io.ErrorKind.{ErrorKind}
use Rattle.std.specs.declared.io.ErrorKind.TheVariants as kind
use Rattle.check_files.specs.declared.trouble.CheckTrouble.{CheckTrouble}
use Rattle.check_files.specs.declared.trouble.CheckTrouble.TheVariants as check
use Rattle.check_program.specs.declared.run.CheckEnd.{CheckEnd}
use Rattle.check_program.specs.declared.run.CheckEnd.TheVariants as check_end
use Rattle.check_sources.specs.Manifests.{reason_text}
use Rattle.file_fixes.specs.declared.mended.ManifestFault.{ManifestFault}
use Rattle.fix_program.specs.declared.trouble.FixTrouble.{FixTrouble}
use Rattle.fix_program.specs.declared.trouble.FixTrouble.TheVariants as fix
use Rattle.fix_program.specs.declared.run.FixFault.{FixFault}
use Rattle.fix_program.specs.declared.run.FixFault.TheVariants as fix_fault
use Rattle.gate_program.specs.declared.run.GateTrouble.{GateTrouble}
use Rattle.gate_program.specs.declared.run.GateTrouble.TheVariants as gate
use Rattle.gate_program.specs.declared.policy.PolicyTrouble.{PolicyTrouble}
use Rattle.gate_program.specs.declared.policy.PolicyTrouble.TheVariants as policy
use Rattle.list_program.specs.declared.trouble.ListTrouble.{ListTrouble}
use Rattle.list_program.specs.declared.trouble.ListTrouble.TheVariants as list
use Rattle.meaning_program.specs.declared.trouble.MeaningTrouble.{MeaningTrouble}
use Rattle.meaning_program.specs.declared.trouble.MeaningTrouble.TheVariants as meaning
use Rattle.notice_program.specs.declared.run.NoticeTrouble.{NoticeTrouble}
use Rattle.notice_program.specs.declared.run.NoticeTrouble.TheVariants as notice
use Rattle.package_files.specs.declared.fault.FileFault.{FileFault}
use Rattle.package_files.specs.declared.fault.FileFault.TheVariants as file
use Rattle.spdx_troubles.specs.declared.trouble.Trouble.{Trouble}
use Rattle.spdx_troubles.specs.declared.trouble.Trouble.TheVariants as trouble

abbrev pub refuses_memory : ErrorKind → Bool
refuses_memory kind.OutOfMemory = true
refuses_memory _ = false

abbrev pub is_of_memory : Error → Bool
is_of_memory e = refuses_memory (error_kind e)

abbrev pub is_nul : ℕ → Bool
is_nul b = b == 0

-- a path with a NUL stands for one that is no UTF-8, which can't be opened
abbrev pub of_path : String Global → Error → Trouble
of_path path e =
    if is_of_memory e then trouble.Memory
    else if list_any is_nul (string_bytes path) then trouble.NotUtf8 path
    else trouble.Unreadable path e

-- why no list is read
abbrev pub list_trouble : ListTrouble → Trouble
list_trouble (list.Unreadable n e) = of_path n e
list_trouble list.Nameless = trouble.Nameless
list_trouble (list.NoList n fault) = trouble.List n fault
list_trouble (list.NotMade n fault) = trouble.Made n fault
list_trouble (list.NoExtras fault) = trouble.NoExtras fault
list_trouble list.Output = trouble.Output
list_trouble list.Memory = trouble.Memory

-- why the packages of a file aren't had
abbrev pub file_trouble : FileFault → Trouble
file_trouble (file.Unreadable n e) = of_path n e
file_trouble (file.Source n fault) = trouble.Source n fault
file_trouble (file.Empty n) = trouble.Empty n
file_trouble file.Memory = trouble.Memory

-- why there is no policy
abbrev pub policy_trouble : PolicyTrouble → Trouble
policy_trouble (policy.Unreadable n e) = of_path n e
policy_trouble (policy.NoPolicy n fault) = trouble.Policy n fault
policy_trouble (policy.NoReplacements fault) = trouble.NoExtras fault
policy_trouble policy.Memory = trouble.Memory

abbrev pub gate_trouble : GateTrouble → Trouble
gate_trouble (gate.List t) = list_trouble t
gate_trouble (gate.Policy t) = policy_trouble t
gate_trouble gate.Memory = trouble.Memory

abbrev pub notice_trouble : NoticeTrouble → Trouble
notice_trouble (notice.List t) = list_trouble t
notice_trouble notice.Memory = trouble.Memory

abbrev pub meaning_trouble : MeaningTrouble → Trouble
meaning_trouble (meaning.List t) = list_trouble t
meaning_trouble (meaning.Unsaid u) = trouble.Unmeant u.text u.why
meaning_trouble meaning.Memory = trouble.Memory

abbrev pub check_end_trouble : CheckEnd → Trouble
check_end_trouble (check_end.List t) = list_trouble t
check_end_trouble check_end.Output = trouble.Output
check_end_trouble check_end.Memory = trouble.Memory

-- why a check passes something over
abbrev pub check_trouble : CheckTrouble → Trouble
check_trouble (check.Unreadable n e) = of_path n e
check_trouble (check.Broken n) = trouble.Broken n
check_trouble (check.NoManifest n) = trouble.NoManifest n
check_trouble (check.Folder n) = trouble.Folder n
check_trouble (check.Unnamed n count) = trouble.Unnamed n count
check_trouble (check.LeftBehind n) = trouble.LeftBehind n

abbrev pub fix_fault_trouble : FixFault → Trouble
fix_fault_trouble (fix_fault.List t) = list_trouble t
fix_fault_trouble fix_fault.Memory = trouble.Memory

-- it says in these words why the file is no manifest
pub data IsManifest (n : String Global) (f : ManifestFault) : Trouble → Type 0 where
  is_manifest : {why : Bor (List ℕ)} → why.now ≡ reason_text f.reason →
      IsManifest n f (trouble.Manifest n why f.line)

-- why a file isn't mended
abbrev pub IsFixTrouble : FixTrouble → Trouble → Type 0
IsFixTrouble (fix.Unreadable n e) t = t ≡ of_path n e
IsFixTrouble (fix.Special n) t = t ≡ trouble.Special n
IsFixTrouble (fix.Above n) t = t ≡ trouble.Above n
IsFixTrouble (fix.Manifest n f) t = IsManifest n f t
IsFixTrouble (fix.NoManifest n) t = t ≡ trouble.NoManifest n
IsFixTrouble (fix.Folder n) t = t ≡ trouble.Folder n
IsFixTrouble (fix.Unnamed n count) t = t ≡ trouble.Unnamed n count
IsFixTrouble fix.Memory t = t ≡ trouble.Memory
