-- Why a file is left out, and whether memory was refused.
use Rattle.std.specs.Prelude.{Bool, true, false}
use Rattle.std.specs.IoError.{error_kind}
use Rattle.std.specs.declared.io.ErrorKind.{ErrorKind}
use Rattle.std.specs.declared.io.ErrorKind.TheVariants as kind
use Rattle.source_trees.specs.declared.reading.ReadingFault.{ReadingFault}
use Rattle.source_trees.specs.declared.reading.ReadingFault.TheVariants as fault
use Rattle.fix_program.specs.declared.trouble.FixTrouble.{FixTrouble}
use Rattle.fix_program.specs.declared.trouble.FixTrouble.TheVariants as trouble

abbrev pub refuses_memory : ErrorKind → Bool
refuses_memory kind.OutOfMemory = true
refuses_memory _ = false

-- to the system or to this program
abbrev pub is_of_memory : FixTrouble → Bool
is_of_memory (trouble.Unreadable n e) = refuses_memory (error_kind e)
is_of_memory trouble.Memory = true
is_of_memory _ = false

-- why a path isn't read is why it is left out
abbrev pub trouble_of : ReadingFault → FixTrouble
trouble_of (fault.Unreadable n e) = trouble.Unreadable n e
trouble_of (fault.NoManifest n) = trouble.NoManifest n
trouble_of (fault.Folder n) = trouble.Folder n
trouble_of fault.Memory = trouble.Memory
