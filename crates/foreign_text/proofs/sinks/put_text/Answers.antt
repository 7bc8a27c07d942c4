use Rattle.std.proofs.Common.{◌≡◌, ℕ, List, ◌++◌, ◌∙◌, ap, sym, string_bytes, flat_map, chars}
use Rattle.std.proofs.lemmas.Iterator.{YieldsList-from_chars}
use Rattle.std.proofs.lemmas.Iterator.Consumers.{YieldsList-end}
use Rattle.std.proofs.lemmas.List.{map-id}
use Rattle.foreign_text.specs.Written.{char_for}
use Rattle.foreign_text.proofs.Laws.{is_safe, reads_back}
use Rattle.foreign_text.proofs.sinks.put_text.Goals as goal

pub returns-clause-ok : goal.returns-clause-ok
returns-clause-ok c =
    let t = YieldsList-end (YieldsList-from_chars c.args.text.now c.utf8.text cc) c.loop-letter.yielded _ c.loop-letter.yielded_by _ _ c.in-None.is c.next.ensures.steps in
    let all : c.loop-letter.yielded ≡ chars c.args.text.now = sym (map-id c.loop-letter.yielded) ∙ t.0 in
    c.loop-letter.invariant ∙ ap (λ (cs : List ℕ). string_bytes c.args.line.now ++ flat_map (char_for c.args.sink) cs) all

pub returns-clause-safe : goal.returns-clause-safe
returns-clause-safe c = is_safe c.args.sink c.args.text.now c.utf8.text

pub returns-clause-reads_back : goal.returns-clause-reads_back
returns-clause-reads_back c = reads_back c.args.sink c.args.text.now c.utf8.text

pub returns-in_err-put_char-clause-safe : goal.returns-in_err-put_char-clause-safe
returns-in_err-put_char-clause-safe c = is_safe c.args.sink c.args.text.now c.utf8.text

pub returns-in_err-put_char-clause-reads_back : goal.returns-in_err-put_char-clause-reads_back
returns-in_err-put_char-clause-reads_back c = reads_back c.args.sink c.args.text.now c.utf8.text
