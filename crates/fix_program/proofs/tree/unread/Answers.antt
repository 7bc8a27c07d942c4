use Rattle.std.proofs.Common.{◌∷◌, [], ◌∙◌, ap}
use Rattle.fix_program.specs.declared.ends.FileEnd.{FileEnd}
use Rattle.fix_program.proofs.tree.unread.Goals as goal

pub returns : goal.returns
returns c = (
  c.in_ok-path.path,
  c.in_ok-path.ensures.ok,
  c.in_ok-ends.ensures ∙ ap (λ (e : FileEnd). e ∷ []) c.in_ok-end.ensures.0,
  c.in_ok-end.ensures.1,
)
