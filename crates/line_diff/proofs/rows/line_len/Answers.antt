use Rattle.line_diff.proofs.Lines.{first_ended, first_open}
use Rattle.line_diff.proofs.rows.line_len.Goals as goal

pub returns-then-end-bytes-clause-lines : goal.returns-then-end-bytes-clause-lines
returns-then-end-bytes-clause-lines c some =
    let place = c.newline_place-end in
    first_ended c.args.bytes.now place.result place.ensures.before c.if-end-bytes.true (place.ensures.found c.if-end-bytes.true)

pub returns-else-end-bytes-clause-lines : goal.returns-else-end-bytes-clause-lines
returns-else-end-bytes-clause-lines c some =
    let place = c.newline_place-end in
    first_open c.args.bytes.now place.result place.ensures.before some c.if-end-bytes.false place.ensures.within
