use Rattle.std.proofs.Common.{ap, ◌∙◌, map, List}
use Rattle.std.specs.List.{zip}
use Rattle.std.proofs.lemmas.Result.{IfOk-weaker}
use Rattle.owed_texts.specs.All.{reads_in}
use Rattle.owed_texts.specs.Own.{Read}
use Rattle.notice_program.specs.Noted.{noted, noted_by, noted_in, owns_by}
use Rattle.notice_program.specs.Page.{IsNotedEnd, IsPackagesEnd}
use Rattle.notice_program.specs.Taken.{taken_by}
use Rattle.notice_program.proofs.page.read_end.Goals as goal

pub returns : goal.returns
returns g c =
    let s = g.S.Shelf.told c.args.shelf.now in
    let xs = map taken_by c.args.placed.now in
    IfOk-weaker c.noted_end.result (IsPackagesEnd s c.args.request c.deref-2.result.now) (IsNotedEnd s c.args.request (noted_in xs (reads_in c.args.read.now)))
    (λ e is. (
      c.deref-2.result.now,
      ap (map noted_by) c.deref-2.ensures.value ∙ c.in_ok-noted.ensures ∙ ap (λ (rs : List (List Read)). map noted (zip xs rs)) (ap (map owns_by) c.deref.ensures.value ∙ c.in_ok-owns.ensures),
      is,
    ))
    c.noted_end.ensures
