use Rattle.std.proofs.Common.{◌≡◌, ◌∙◌, ap, subst, ◌++◌, length}
use Rattle.std.specs.Prelude.{◌==◌}
use Rattle.spdx_parser.specs.Frames.{empty_frames, frames_in}
use Rattle.spdx_parser.proofs.Counted.{counts_none}
use Rattle.spdx_parser.proofs.frames.Frames.is_empty.Goals as goal

pub returns-then-self-eq0 : goal.returns-then-self-eq0
returns-then-self-eq0 c =
    let shown : empty_frames c.self.inside.empty ++ frames_in c.self.inside.runs.items ≡ c.args.self.now = c.self.view_is in
    let top : frames_in c.self.inside.runs.items ≡ c.args.self.now = subst (λ n. empty_frames n ++ frames_in c.self.inside.runs.items ≡ c.args.self.now) c.if-self-eq0.true shown in
    c.is_empty.ensures ∙ ap (λ n. n == 0) c.self.inside.runs.ok.0 ∙ counts_none c.self.inside.runs.items ∙ ap (λ xs. length xs == 0) top
