use Rattle.std.proofs.Common.{◌-◌, length, subst, arith, IsUtf8}
use Rattle.std.proofs.lemmas.Str.{IsCharBoundary-from_drop}
use Rattle.spdx_canonical.proofs.draft.front.Goals as goal

pub range-requires-clause-end_boundary : goal.range-requires-clause-end_boundary
range-requires-clause-end_boundary c =
    let text = c.args.text.now in
    let rest = c.args.rest.now in
    IsCharBoundary-from_drop text (length text - length rest) (omega arith) (subst IsUtf8 c.requires c.utf8.rest)
