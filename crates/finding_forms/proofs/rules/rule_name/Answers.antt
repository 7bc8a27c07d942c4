use Rattle.std.proofs.Common.{◌≡◌, ◌∙◌, ap, sym, flat_map, chars}
use Rattle.std.proofs.lemmas.Iterator.{YieldsList-from_chars}
use Rattle.std.proofs.lemmas.Iterator.Consumers.{YieldsList-end}
use Rattle.std.proofs.lemmas.List.{map-id}
use Rattle.finding_forms.specs.Rule.{rule_char}
use Rattle.finding_forms.proofs.rules.rule_name.Goals as goal

pub returns : goal.returns
returns c =
    let t = YieldsList-end (YieldsList-from_chars c.args.reason.now c.utf8.reason cc) c.loop-letter.yielded _ c.loop-letter.yielded_by _ _ c.in-None.is c.next.ensures.steps in
    let all : c.loop-letter.yielded ≡ chars c.args.reason.now = sym (map-id c.loop-letter.yielded) ∙ t.0 in
    c.loop-letter.invariant ∙ ap (flat_map rule_char) all
