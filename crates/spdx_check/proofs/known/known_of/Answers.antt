use Rattle.std.proofs.Common.{sym, subst}
use Rattle.std.specs.Prelude.{option_map}
use Rattle.finding_forms.specs.Finding.{told}
use Rattle.spdx_check.specs.declared.known.Known.TheVariants.{Framed}
use Rattle.spdx_check.specs.Known.{Tells}
use Rattle.spdx_check.specs.Refusals.{wrong_of}
use Rattle.spdx_check.proofs.Frames.{framed_tells}
use Rattle.spdx_check.proofs.known.known_of.Goals as goal

pub returns-in-Some-2 : goal.returns-in-Some-2
returns-in-Some-2 c =
    let frame = c.in-Some-2.frame in
    let is = rw c.in-Some-2.is at c.in_ok-frame.ensures.text in
    let tells = framed_tells c.args.format c.args.file.now (wrong_of c.in-Some.refusal) frame (told c.finding_at.result) c.finding_at.ensures is in
    subst (λ found. Tells c.args.format c.args.file.now (option_map wrong_of found) (Framed frame)) (sym c.in-Some.is) tells
