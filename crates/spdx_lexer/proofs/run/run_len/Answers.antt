use Rattle.std.proofs.Common.{ℕ, ◌-◌, List, length, take, drop, arith}
use Rattle.std.proofs.lemmas.List.{length-take}
use Rattle.std.proofs.lemmas.List.Sums.{prefix_len-le-length}
use Rattle.spdx_lexer.specs.Text.{is_run_byte}
use Rattle.spdx_lexer.proofs.run.run_len.Goals as goal

pub overflow_add-result-2 : goal.overflow_add-result-2
overflow_add-result-2 c =
    let bytes : List ℕ = c.as_bytes-bytes.result.now in
    let left : ℕ = length bytes - c.loop-at.at in
    let rest : List ℕ = drop c.loop-at.at bytes in
    omega (arith, c.short_run_len.ensures, prefix_len-le-length is_run_byte (take left rest), length-take left rest)
