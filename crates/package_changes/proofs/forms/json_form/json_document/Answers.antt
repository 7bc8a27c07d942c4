use Rattle.std.proofs.Common.{◌≡◌, append_assoc}
use Rattle.json.specs.Lex.{tokens}
use Rattle.json.specs.Print.{print}
use Rattle.json.specs.Tree.{json_tokens}
use Rattle.package_changes.specs.Json.{json_of_all}
use Rattle.package_changes.proofs.Documents.{reads_back_from}
use Rattle.package_changes.proofs.forms.json_form.json_document.Goals as goal

pub returns-clause-reads_back : goal.returns-clause-reads_back
returns-clause-reads_back c =
    let all : c.end_object.new.self.tokens ≡ json_tokens (json_of_all c.args.tellings.now) =
    rw (c.in_ok-end_object.ensures.ok, c.in_ok-put_list.ensures.tokens, c.in_ok-key.ensures.ok, c.in_ok-begin_object.ensures.ok, c.new-writer.ensures.tokens) (simp append_assoc) in
    let back : tokens (print c.end_object.new.self.tokens) ≡ c.end_object.new.self.tokens = c.into_inner-text.ensures.reads_back in
    reads_back_from c.args.tellings.now (rw all at back)
