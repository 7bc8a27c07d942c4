use Rattle.std.proofs.Common.{◌∙◌, sym, ap, [], ◌∷◌, map}
use Rattle.std.proofs.lemmas.List.{map-append}
use denote.Ref.{Bor}
use Rattle.std.specs.Global.{Vec}
use Rattle.spdx_requirement.specs.declared.requirement.LicenseReq.{LicenseReq}
use Rattle.spdx_requirement.specs.Items.{requirement_of}
use Rattle.spdx_minimize.specs.Choice.{chosen}
use Rattle.spdx.specs.Value.{Written}
use Rattle.package_choices.specs.Accepted.{own_choice, held}
use Rattle.package_choices.proofs.Places.{one_more, one_choice}
use Rattle.package_choices.proofs.accepted.choices.own_choices.Goals as goal

pub returns-in-Err-Refused-clause-err : goal.returns-in-Err-Refused-clause-err
returns-in-Err-Refused-clause-err c =
    let own = own_choice c.args.accepted.now in
    let told = rw c.in-Err-Refused.field-0-is at c.in-Err-Refused.ensures.err in
    rw c.in-Err-Refused.field-0-is
    (record {
      refused = one_choice own c.args.expressions.now c.loop-place.place c.index-expressions-place.result c.loop-place-test.true _
          (ap (λ (e : Bor Written). own e.now.tree) (sym c.index-expressions-place.is) ∙ told);
      before = (held c.loop-place.choices.items, c.loop-place.invariant);
    })

pub loop-place-preserved : goal.loop-place-preserved
loop-place-preserved c =
    let own = own_choice c.args.accepted.now in
    one_more own c.args.expressions.now c.loop-place.place c.index-expressions-place.result c.loop-place-test.true (held c.loop-place.choices.items) (map requirement_of c.in-Ok.choice.items) c.loop-place.invariant
    (ap (λ (e : Bor Written). own e.now.tree) (sym c.index-expressions-place.is) ∙ c.in-Ok.ensures.ok)
    ∙ ap (map chosen) (sym (ap held c.in_ok-push-in-Ok.ensures.items ∙ map-append (λ (v : Vec LicenseReq). map requirement_of v.items) c.loop-place.choices.items (c.in-Ok.choice ∷ [])))
