use Rattle.std.proofs.Common.{ap, subst, sym, ◌∙◌}
use Rattle.std.specs.Prelude.{codes}
use Rattle.std.proofs.lemmas.Bool.{true≢false}
use Rattle.std.specs.Path.{PathStartsWith, path_bytes, path_components}
use Rattle.check_sources.proofs.Spelling.{stripped, unstripped}
use Rattle.check_sources.proofs.untagged.from_here.Goals as goal

pub returns-in-Ok : goal.returns-in-Ok
returns-in-Ok c =
    stripped c.args.path.now (path_bytes c.in-Ok.rest) (ap path_components (sym c.new-whole.ensures) ∙ c.in-Ok.ensures.rest)

pub returns-in-Err : goal.returns-in-Err
returns-in-Err c =
    ap path_components c.new-whole.ensures
    ∙ unstripped c.args.path.now (λ starts. true≢false (sym (c.in-Err.ensures.succeeds.1 (subst (λ p. PathStartsWith p (codes ".")) (sym c.new-whole.ensures) starts))))
