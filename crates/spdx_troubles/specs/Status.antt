-- With which status a trouble ends the program, and which troubles keep no other file from being
-- read.
use Rattle.std.specs.Prelude.{ℕ, Bool, true, false}
use Rattle.spdx_troubles.specs.declared.trouble.Trouble.{Trouble}
use Rattle.spdx_troubles.specs.declared.trouble.Trouble.TheVariants as trouble

-- 3 where a write or memory failed, 1 where what was asked for is refused, 0 where it is only told
abbrev pub status_of : Trouble → ℕ
status_of (trouble.Unwritable n e) = 3
status_of trouble.Output = 3
status_of trouble.Memory = 3
status_of (trouble.NoChoice n why) = 1
status_of (trouble.NoText n text) = 1
status_of (trouble.Lost n) = 0
status_of (trouble.Guessed n form) = 0
status_of (trouble.LeftBehind n) = 0
status_of (trouble.Shared names) = 0
status_of _ = 2

-- it is of one file, manifest or name, and others are read without it
abbrev pub is_passed_over : Trouble → Bool
is_passed_over (trouble.Unreadable n e) = true
is_passed_over (trouble.NotUtf8 n) = true
is_passed_over (trouble.Unnamed n count) = true
is_passed_over (trouble.Broken n) = true
is_passed_over (trouble.Folder n) = true
is_passed_over (trouble.Unlisted n told) = true
is_passed_over (trouble.Special n) = true
is_passed_over (trouble.Above n) = true
is_passed_over (trouble.Changed n) = true
is_passed_over (trouble.Linked n) = true
is_passed_over (trouble.Owner n e) = true
is_passed_over (trouble.Source n fault) = true
is_passed_over (trouble.Manifest n why line) = true
is_passed_over (trouble.NoManifest n) = true
is_passed_over (trouble.Empty n) = true
is_passed_over _ = false
