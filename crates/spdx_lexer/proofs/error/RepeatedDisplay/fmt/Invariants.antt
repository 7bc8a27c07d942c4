use Rattle.std.specs.Fmt.{HasWritten, IsPlainFormatter}
use Rattle.std.specs.List.{repeat}
use Rattle.spdx_lexer.proofs.error.RepeatedDisplay.fmt.Given as goal

abbrev pub invariant-loop-i : goal.invariant-loop-i
invariant-loop-i g l = IsPlainFormatter l.fn.f → HasWritten g.W.Write.write_str_gives l.fn.f (repeat l.i l.self.0.now) l.f
