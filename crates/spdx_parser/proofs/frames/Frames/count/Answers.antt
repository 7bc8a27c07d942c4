use Rattle.std.proofs.Common.{◌≡◌, ◌++◌, ◌∙◌, ap, arith}
use Rattle.spdx_parser.specs.Frames.{empty_frames, frames_in}
use Rattle.spdx_parser.proofs.Counted.{next_fits}
use Rattle.spdx_parser.proofs.frames.Frames.count.Goals as goal

pub overflow_add-count : goal.overflow_add-count
overflow_add-count c =
    let shown : empty_frames c.self.inside.empty ++ frames_in c.deref-run-items.result.now ≡ c.args.self.now = ap (λ rs. empty_frames c.self.inside.empty ++ frames_in rs) c.deref-run-items.ensures.value ∙ c.self.view_is in
    let fits = next_fits c.self.inside.empty c.deref-run-items.result.now c.args.self.now c.loop-run.run-index (record { frame = record { ors = 0; ands = 0 }; around = 0 }) shown c.loop-run-test.true in
    omega (arith, c.requires)

pub overflow_add-count-in-loop-run : goal.overflow_add-count-in-loop-run
overflow_add-count-in-loop-run c =
    let shown : empty_frames c.self.inside.empty ++ frames_in c.deref-run-items.result.now ≡ c.args.self.now = ap (λ rs. empty_frames c.self.inside.empty ++ frames_in rs) c.deref-run-items.ensures.value ∙ c.self.view_is in
    let fits = next_fits c.self.inside.empty c.deref-run-items.result.now c.args.self.now c.loop-run.run-index (record { frame = record { ors = 0; ands = 0 }; around = 0 }) shown c.loop-run-test.true in
    omega (arith, c.requires, c.loop-run.invariant)
