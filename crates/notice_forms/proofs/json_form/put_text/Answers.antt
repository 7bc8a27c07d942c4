use Rattle.std.proofs.Common.{ℕ, List, [], ◌∷◌, ◌++◌, ◌∙◌, ap}
use Rattle.json.specs.Token.{Token}
use Rattle.notice_forms.proofs.Pieces.{begun, written, ended}
use Rattle.notice_forms.proofs.json_form.put_text.Goals as goal

pub returns-clause-tokens : goal.returns-clause-tokens
returns-clause-tokens c =
    let w1 = written (begun c.args.writer.now.tokens) _ _ c.in_ok-begin_object.ensures.ok in
    let w2 = written w1 _ _ c.in_ok-key.ensures.ok in
    let w3 = written w2 _ _ (c.in_ok-string.ensures.ok ∙ ap (λ (t : List ℕ). c.key.new.self.tokens ++ Token.string t ∷ []) c.deref.ensures) in
    let w4 = written w3 _ _ c.in_ok-key-2.ensures.ok in
    let w5 = written w4 _ _ c.in_ok-string-2.ensures.ok in
    let w6 = written w5 _ _ c.in_ok-key-3.ensures.ok in
    let w7 = written w6 _ _ c.in_ok-put_holders.ensures.tokens in
    let w8 = written w7 _ _ c.in_ok-key-4.ensures.ok in
    let w9 = written w8 _ _ c.in_ok-string-3.ensures.ok in
    ended w9 _ _ c.in_ok-end_object.ensures.ok
