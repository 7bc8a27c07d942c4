use Rattle.std.proofs.Common.{◌≡◌, ℕ, List, ◌++◌, ◌∙◌, ap, sym, string_bytes, flat_map, chars}
use Rattle.std.proofs.lemmas.Iterator.{YieldsList-from_chars}
use Rattle.std.proofs.lemmas.Iterator.Consumers.{YieldsList-end}
use Rattle.std.proofs.lemmas.List.{map-id}
use Rattle.package_items.specs.Faults.{shown_char}
use Rattle.spdx_troubles.proofs.Shown.{shown_safe}
use Rattle.spdx_troubles.proofs.line.put_shown.Goals as goal

pub returns-clause-ok : goal.returns-clause-ok
returns-clause-ok c =
    let t = YieldsList-end (YieldsList-from_chars c.args.text.now c.utf8.text cc) c.loop-letter.yielded _ c.loop-letter.yielded_by _ _ c.in-None.is c.next.ensures.steps in
    let all : c.loop-letter.yielded ≡ chars c.args.text.now = sym (map-id c.loop-letter.yielded) ∙ t.0 in
    c.loop-letter.invariant ∙ ap (λ (cs : List ℕ). string_bytes c.args.line.now ++ flat_map shown_char cs) all

pub returns-clause-safe : goal.returns-clause-safe
returns-clause-safe c = shown_safe c.args.text.now c.utf8.text

pub returns-in_err-put_shown_char-clause-safe : goal.returns-in_err-put_shown_char-clause-safe
returns-in_err-put_shown_char-clause-safe c = shown_safe c.args.text.now c.utf8.text
