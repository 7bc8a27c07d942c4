use Rattle.std.proofs.Common.{◌≡◌, ℕ, List, ◌∙◌, sym, subst, flat_map, chars}
use Rattle.std.specs.Fmt.{HasWritten}
use Rattle.std.proofs.lemmas.Iterator.{YieldsList-from_chars}
use Rattle.std.proofs.lemmas.Iterator.Consumers.{YieldsList-end}
use Rattle.std.proofs.lemmas.List.{map-id}
use Rattle.package_items.specs.Faults.{shown_char}
use Rattle.package_items.proofs.error.put_shown.Goals as goal

pub returns : goal.returns
returns g c plain good =
    let t = YieldsList-end (YieldsList-from_chars c.args.text.now c.utf8.text cc) c.loop-letter.yielded _ c.loop-letter.yielded_by _ _ c.in-None.is c.next.ensures.steps in
    let all : c.loop-letter.yielded ≡ chars c.args.text.now = sym (map-id c.loop-letter.yielded) ∙ t.0 in
    subst (λ (cs : List ℕ). HasWritten g.W.Write.write_str_gives c.args.f.now (flat_map shown_char cs) c.loop-letter.f) all (c.loop-letter.invariant plain)
