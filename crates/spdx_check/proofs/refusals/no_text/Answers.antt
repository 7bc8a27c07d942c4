use Rattle.std.proofs.Common.{arith}
use Rattle.std.proofs.lemmas.Str.{utf8_valid_len_le}
use Rattle.spdx_check.proofs.refusals.no_text.Goals as goal

pub overflow_add-result : goal.overflow_add-result
overflow_add-result c = omega (arith, utf8_valid_len_le c.args.bytes.now)
