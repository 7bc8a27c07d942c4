use Rattle.std.proofs.Common.{◌∙◌}
use Rattle.std.specs.Prelude.{bytes_eq}
use Rattle.notice_told.specs.Lacks.{Lacked, seen_lack}
use Rattle.notice_told.proofs.Filters.{any_seen}
use Rattle.notice_told.proofs.texts.is_lacked.Goals as goal

pub returns : goal.returns
returns c = c.is_lacked_of-found.ensures ∙ any_seen seen_lack (λ (l : Lacked). bytes_eq l.text c.args.name.now) c.args.lacks.now
