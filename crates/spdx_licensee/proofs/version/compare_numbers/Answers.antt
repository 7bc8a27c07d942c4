use Rattle.std.proofs.Common.{sym}
use Rattle.spdx_licensee.proofs.Digits.{digits_compare}
use Rattle.spdx_licensee.proofs.version.compare_numbers.Goals as goal

pub returns : goal.returns
returns c =
    let a = c.without_leading_zeros-a in
    let b = c.without_leading_zeros-b in
    rw (c.then.ensures, c.cmp.ensures, c.cmp-2.ensures, ← a.ensures.number, ← b.ensures.number)
    (sym (digits_compare a.result.now b.result.now a.ensures.digits b.ensures.digits a.ensures.no_zero b.ensures.no_zero))
