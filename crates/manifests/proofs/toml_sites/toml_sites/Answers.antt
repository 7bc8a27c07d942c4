use Rattle.std.proofs.Common.{rules}
use Rattle.manifests.proofs.toml_sites.toml_sites.Goals as goal

pub returns-in_err-text-clause-err : goal.returns-in_err-text-clause-err
returns-in_err-text-clause-err c = let is = c.in_err-text.ensures.err c.args.form in search rules

pub returns-in_err-document-clause-err : goal.returns-in_err-document-clause-err
returns-in_err-document-clause-err c =
    let is = rw c.in_ok-text.ensures.ok at c.in_err-document.ensures.err c.args.form in search rules
