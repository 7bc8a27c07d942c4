use Rattle.std.proofs.Common.{◌≡◌, refl}
use Rattle.json.specs.Lex.{tokens}
use Rattle.json.specs.Print.{print}
use Rattle.json.specs.Tree.{json_tokens}
use Rattle.notice_forms.specs.Json.{told_json}
use Rattle.notice_forms.specs.Told.{told}
use Rattle.notice_forms.proofs.Documents.{reads_back_from}
use Rattle.notice_forms.proofs.json_form.document_of.Goals as goal

pub returns-clause-reads_back : goal.returns-clause-reads_back
returns-clause-reads_back c =
    let all : c.put_document.new.writer.tokens ≡ json_tokens (told_json (told c.args.shown.now)) = rw (c.in_ok-put_document.ensures.tokens) (rw c.new-writer.ensures.tokens refl) in
    let back : tokens (print c.put_document.new.writer.tokens) ≡ c.put_document.new.writer.tokens = c.into_inner-text.ensures.reads_back in
    reads_back_from (told c.args.shown.now) (rw all at back)
