use Rattle.std.proofs.Common.{List, ◌++◌, sym, ap, ◌∙◌, append-nil}
use Rattle.std.proofs.lemmas.Option.{slice_get_past}
use Rattle.json.specs.Token.{Token}
use Rattle.notice_forms.specs.Found.{text_token}
use Rattle.notice_forms.specs.Hashed.{hash_in}
use Rattle.notice_forms.proofs.Picking.{at_none}
use Rattle.notice_forms.proofs.json_form.put_hash.Goals as goal

pub returns-in-None-clause-tokens : goal.returns-in-None-clause-tokens
returns-in-None-clause-tokens c =
    let none = at_none hash_in text_token c.args.texts.now c.args.number (slice_get_past c.args.texts.now c.args.number c.in-None.ensures.lookup.3) in
    sym (ap (λ (ts : List Token). c.args.writer.now.tokens ++ ts) none ∙ append-nil c.args.writer.now.tokens)
