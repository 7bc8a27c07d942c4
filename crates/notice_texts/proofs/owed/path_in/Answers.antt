use Rattle.std.proofs.Common.{◌≡◌, ap, sym, ◌∙◌, true}
use Rattle.notice_texts.specs.Paths.{is_inside}
use Rattle.notice_texts.proofs.Inside.{stays_inside}
use Rattle.notice_texts.proofs.owed.path_in.Goals as goal

pub returns-clause-stays : goal.returns-clause-stays
returns-clause-stays c =
    let inside : is_inside c.args.path.now ≡ true = sym (c.is_inside.ensures ∙ ap is_inside c.as_bytes.ensures.value) ∙ c.if-not-is_inside.false in
    stays_inside c.args.path.now inside
