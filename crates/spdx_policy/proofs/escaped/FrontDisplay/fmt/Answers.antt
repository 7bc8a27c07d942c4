use Rattle.std.proofs.Common.{◌≡◌, [], ◌∙◌, sym, ap, rules, chars, take, flat_map}
use Rattle.std.proofs.Output.{has_written_append, has_written_of_eq}
use Rattle.std.proofs.lemmas.Iterator.{YieldsList-from_chars, YieldsList-from_take}
use Rattle.std.proofs.lemmas.Iterator.Consumers.{YieldsList-end}
use Rattle.std.proofs.lemmas.List.{map-id, flat_map_more}
use Rattle.spdx_policy.specs.Escaped.{char_shown}
use Rattle.spdx_policy.proofs.escaped.FrontDisplay.fmt.Goals as goal

pub loop-letter-preserved : goal.loop-letter-preserved
loop-letter-preserved g c plain =
    has_written_of_eq _ _ _ _ _ (flat_map_more char_shown [] c.loop-letter.yielded c.in-Some.letter)
    (has_written_append _ _ _ _ _ _ (c.loop-letter.invariant plain) (search rules))

pub returns-clause-writes : goal.returns-clause-writes
returns-clause-writes g c plain ok =
    let text = c.args.self.now.0.now in
    let t = YieldsList-end (YieldsList-from_take 80 (YieldsList-from_chars text (search rules) cc) cc) c.loop-letter.yielded _ c.loop-letter.yielded_by _ _ c.in-None.is c.next.ensures.steps in
    let all : c.loop-letter.yielded ≡ take 80 (chars text) = sym (map-id c.loop-letter.yielded) ∙ t.0 in
    has_written_of_eq _ _ _ _ _ (ap (flat_map char_shown) all) (c.loop-letter.invariant plain)
