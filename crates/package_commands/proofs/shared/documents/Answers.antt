use Rattle.package_files.specs.Documents.{documents_of}
use Rattle.package_commands.proofs.Steps.{documents_more}
use Rattle.package_commands.proofs.shared.documents.Goals as goal

pub loop-file-preserved : goal.loop-file-preserved
loop-file-preserved c =
    documents_more c.args.source c.args.files.now c.loop-file.file-index _ c.file-item.result (documents_of c.loop-file.documents.items) (documents_of c.put_document.new.documents.items)
    c.loop-file.invariant c.loop-file-test.true c.file-item.is c.in_ok-put_document.ensures
