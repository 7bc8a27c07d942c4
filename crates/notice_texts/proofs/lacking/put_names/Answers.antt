use Rattle.std.proofs.Common.{rules, ◌≡◌, Some, None, map, refl, sym, ap, ◌∙◌}
use Rattle.notice_texts.specs.Lacking as spec
use Rattle.notice_texts.specs.Stems.{stem}
use Rattle.notice_texts.proofs.LackLaws.{text_of, texts_pushed, held_more, held_alone}
use Rattle.notice_texts.proofs.lacking.put_names.Goals as goal

pub returns-in_ok-push-2 : goal.returns-in_ok-push-2
returns-in_ok-push-2 c name =
    let file = c.args.file.now in
    let s = c.in-Some.name.now in
    let before = map text_of c.args.names.now.items in
    let stemmed : stem file ≡ Some s = sym c.in-Some.ensures in
    let first = texts_pushed c.args.names.now.items _ _ _ c.in_ok-push.ensures.items refl in
    let both = texts_pushed c.push.new.self.items _ _ _ c.in_ok-push-2.ensures.items first in
    ap (λ ns. spec.is_among ns name) both ∙ held_more before file s name stemmed

pub returns-in_default : goal.returns-in_default
returns-in_default c name =
    let file = c.args.file.now in
    let none : stem file ≡ None = search rules in
    ap (λ ns. spec.is_among ns name) (texts_pushed c.args.names.now.items _ _ _ c.in_ok-push.ensures.items refl) ∙ held_alone (map text_of c.args.names.now.items) file name none
