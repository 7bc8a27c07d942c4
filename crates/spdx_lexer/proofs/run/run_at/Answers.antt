use Rattle.std.proofs.Common.{◌<◌, subst, sym, rules, IsCharBoundary}
use Rattle.spdx_lexer.proofs.Front.{front_boundary, run_ascii, left_cut}
use Rattle.spdx_lexer.specs.Text.{is_run_byte}
use Rattle.spdx_lexer.proofs.run.run_at.Goals as goal

pub range-requires-clause-end_boundary : goal.range-requires-clause-end_boundary
range-requires-clause-end_boundary c = subst (IsCharBoundary c.args.text.now) (sym c.run_len.ensures) (front_boundary is_run_byte run_ascii c.args.text.now c.utf8.text)

pub range-requires-2-clause-end_boundary : goal.range-requires-2-clause-end_boundary
range-requires-2-clause-end_boundary c = let some : 0 < c.args.known = search rules in left_cut c.args.known c.args.text.now c.utf8.text c.requires some
