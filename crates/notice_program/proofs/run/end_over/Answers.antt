use Rattle.std.proofs.Common.{arith}
use Rattle.std.proofs.lemmas.List.{nil_from_length}
use Rattle.std.proofs.lemmas.Result.{IfOk-weaker}
use Rattle.notice_program.specs.Run.{IsEnd, IsFilesEnd, left, read}
use Rattle.notice_program.proofs.Ending.{some_of}
use Rattle.notice_program.proofs.run.end_over.Goals as goal

pub returns-in-empty : goal.returns-in-empty
returns-in-empty g c =
    let s = g.S.Shelf.told c.args.shelf.now in
    IfOk-weaker c.files_end.result (IsFilesEnd s c.args.replacements.now c.args.catalogue.now c.args.request c.args.files.now) (IsEnd s c.args.replacements.now c.args.catalogue.now c.args.request c.args.files.now c.args.left_out.now)
    (λ e is. read (nil_from_length c.args.left_out.now (omega (arith, c.in-empty.len_below))) is)
    c.files_end.ensures

pub returns-in-len1-up : goal.returns-in-len1-up
returns-in-len1-up g c = left (some_of c.args.left_out.now (omega (arith, c.in-len1-up.len_at_least)))
