use Rattle.std.proofs.Common.{◌≡◌, ◌+◌, length, take}
use Rattle.spdx_parser.specs.Frames.{frames_in}
use Rattle.spdx_parser.proofs.frames.Frames.count.Given as goal

abbrev pub invariant-loop-run : goal.invariant-loop-run
invariant-loop-run l = l.count ≡ l.initial.count + length (frames_in (take l.run-index l.run-items))
