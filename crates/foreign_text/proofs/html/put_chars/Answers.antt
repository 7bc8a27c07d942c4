use Rattle.std.proofs.Common.{rules, take, length, ◌≡◌, ℕ, List, ◌++◌, ◌∙◌, ap, sym, flat_map, chars}
use Rattle.std.proofs.lemmas.Iterator.{YieldsList-from_chars}
use Rattle.std.proofs.lemmas.Iterator.Consumers.{YieldsList-end}
use Rattle.std.proofs.lemmas.List.{map-id}
use Rattle.std.proofs.Math.Seq.{take-append_seam}
use Rattle.foreign_text.specs.PageText.{page_char}
use Rattle.foreign_text.proofs.html.put_chars.Goals as goal

pub returns-clause-ok : goal.returns-clause-ok
returns-clause-ok c =
    let t = YieldsList-end (YieldsList-from_chars c.args.text.now c.utf8.text cc) c.loop-letter.yielded _ c.loop-letter.yielded_by _ _ c.in-None.is c.next.ensures.steps in
    let all : c.loop-letter.yielded ≡ chars c.args.text.now = sym (map-id c.loop-letter.yielded) ∙ t.0 in
    c.loop-letter.invariant ∙ ap (λ (cs : List ℕ). c.args.page.now.items ++ flat_map page_char cs) all

pub returns-in_err-put_char-clause-err : goal.returns-in_err-put_char-clause-err
returns-in_err-put_char-clause-err c =
    let old = c.args.page.now.items in
    let kept : take (length old) c.put_char.new.page.items ≡ old = rw (c.in_err-put_char.ensures.err, c.loop-letter.invariant) (take-append_seam old (flat_map page_char c.loop-letter.yielded)) in
    search (rules, kept)
