use Rattle.std.proofs.Common.{arith}
use Rattle.spdx_licensee.proofs.Marks.{is_hyphen}
use Rattle.spdx_licensee.proofs.Pieces.{split_found, split_absent}
use Rattle.spdx_licensee.proofs.version.FamilyParts.next_part.Goals as goal

pub returns-in-Some-clause-part : goal.returns-in-Some-clause-part
returns-in-Some-clause-part c =
    let e = split_found is_hyphen c.in_ok-rest.rest.now c.in-Some.hyphen c.in-Some.ensures in
    grind (arith, e)

pub returns-in-None-clause-part : goal.returns-in-None-clause-part
returns-in-None-clause-part c =
    let e = split_absent is_hyphen c.in_ok-rest.rest.now c.in-None.ensures in grind (arith, e)
