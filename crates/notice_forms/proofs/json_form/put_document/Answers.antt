use Rattle.std.proofs.Common.{◌≡◌, map, ap, ◌∙◌, ◌++◌}
use Rattle.json.specs.Json.{Items, array}
use Rattle.json.specs.Tree.{json_tokens}
use Rattle.notice_forms.specs.Hashed.{hashed, hashed_json}
use Rattle.notice_forms.specs.Json.{items_of, named_json}
use Rattle.notice_forms.specs.Told.{told}
use Rattle.notice_forms.proofs.Documents.{texts_named}
use Rattle.notice_forms.proofs.Pieces.{begun, written, ended}
use Rattle.notice_forms.proofs.json_form.put_document.Goals as goal

pub returns-clause-tokens : goal.returns-clause-tokens
returns-clause-tokens c =
    let same : items_of (map hashed_json (map hashed c.args.texts.now)) ≡ items_of (map named_json (told c.args.shown.now).texts) =
    ap (λ hs. items_of (map hashed_json hs)) c.requires ∙ texts_named (told c.args.shown.now).texts in
    let w1 = written (begun c.args.writer.now.tokens) _ _ c.in_ok-begin_object.ensures.ok in
    let w2 = written w1 _ _ c.in_ok-key.ensures.ok in
    let w3 = written w2 _ _ c.in_ok-put_packages.ensures.tokens in
    let w4 = written w3 _ _ c.in_ok-key-2.ensures.ok in
    let w5 = written w4 _ _ (c.in_ok-put_texts.ensures.tokens ∙ ap (λ (js : Items). c.key-2.new.self.tokens ++ json_tokens (array js)) same) in
    ended w5 _ _ c.in_ok-end_object.ensures.ok
