use Rattle.std.proofs.Common.{◌≡◌, take}
use Rattle.package_files.specs.Documents.{documents_of}
use Rattle.package_commands.specs.Shared.{documents_in}
use Rattle.package_commands.proofs.shared.documents.Given as goal

abbrev pub invariant-loop-file : goal.invariant-loop-file
invariant-loop-file l = documents_of l.documents.items ≡ documents_in l.source (take l.file-index l.files)
