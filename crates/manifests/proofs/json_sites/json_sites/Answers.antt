use Rattle.std.proofs.Common.{rules}
use Rattle.manifests.proofs.json_sites.json_sites.Goals as goal

pub returns-in_err-document-clause-err : goal.returns-in_err-document-clause-err
returns-in_err-document-clause-err c = let is = c.in_err-document.ensures.err c.args.form in search rules
