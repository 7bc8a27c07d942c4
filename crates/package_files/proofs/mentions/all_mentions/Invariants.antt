use Rattle.std.proofs.Common.{◌≡◌, ◌++◌, map, drop}
use Rattle.package_files.specs.Documents.{documents_of}
use Rattle.package_files.specs.Mentions.{mention_row, mentions_from}
use Rattle.package_files.proofs.mentions.all_mentions.Given as goal

abbrev pub invariant-loop-document : goal.invariant-loop-document
invariant-loop-document l =
    mentions_from 0 (documents_of l.documents)
    ≡ map mention_row l.all.items ++ mentions_from l.document (documents_of (drop l.document l.documents))
