use Rattle.std.proofs.Common.{◌≡◌, ℕ, List, [], ◌∷◌, ◌++◌, Bor, ap, sym, subst, ◌∙◌}
use Rattle.std.proofs.lemmas.List.{map-append}
use Rattle.spdx_gate.specs.Counts.{Has}
use Rattle.spdx_gate.specs.Needs.{texts_of}
use Rattle.spdx_gate.proofs.Counted.{has-insert}
use Rattle.spdx_gate.proofs.needs.add_one.Goals as goal

pub returns-clause-met : goal.returns-clause-met
returns-clause-met c =
    let old = c.args.once.now.items in
    let pushed : texts_of c.push.new.self.items ≡ texts_of old ++ c.args.text.now ∷ [] =
    ap texts_of c.in_ok-push.ensures.items ∙ map-append (λ (x : Bor (List ℕ)). x.now) old (c.args.text ∷ []) in
    subst (Has c.insert.new.self) (sym pushed) (has-insert c.args.met.now c.insert.new.self (texts_of old) c.args.text.now c.requires c.in_ok-insert.ensures.updates)
