use Rattle.std.proofs.Common.{◌≡◌, ◌∙◌, map, set, List, ℕ, Bor, ap, arith}
use Rattle.std.proofs.lemmas.List.{map-set}
use Rattle.std.proofs.lemmas.Grind.{common_steps}
use Rattle.plain_manifests.specs.Sites.{texts_at}
use Rattle.plain_manifests.proofs.sites.wanted_texts.Goals as goal

pub returns : goal.returns
returns c =
    let shown : Bor (List ℕ) → List ℕ = λ x. x.now in
    let before : map shown c.in_ok-texts.texts.items ≡ texts_at c.args.change.now.bytes.now c.args.change.now.places.now = grind (arith, common_steps) in
    map-set shown c.in_ok-texts.texts.items c.args.change.now.number c.args.change.now.new
    ∙ ap (λ texts. set texts c.args.change.now.number c.args.change.now.new.now) before
