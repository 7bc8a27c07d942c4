use Rattle.std.proofs.Common.{◌≡◌, subst, ap, rules}
use Rattle.spdx_requirement.specs.Items.{requirement_of}
use Rattle.spdx_requirement.specs.Rows.{Rows}
use Rattle.spdx_requirement.specs.Texts.{requirement_text}
use Rattle.spdx_policy.specs.Rules.{Rules}
use Rattle.spdx_policy.specs.Blame.{BlamesName, IsNoEntry}
use Rattle.spdx_licensee.proofs.Unique.{of_refused}
use Rattle.spdx_policy.proofs.NoPolicy.{no_entry}
use Rattle.spdx_policy.proofs.policy.Policy.offer.Goals as goal

pub returns-in-Err-Refused-clause-none : goal.returns-in-Err-Refused-clause-none
returns-in-Err-Refused-clause-none c =
    let list = c.self.inside.catalogue.now in
    let text : c.as_str.result.now ≡ requirement_text (requirement_of c.args.way.now) = search rules in
    let none : IsNoEntry list c.as_str.result.now =
    no_entry list c.one-place.result c.as_str.result.now c.in-Err-Refused.field-0-0
    (of_refused (BlamesName list c.one-place.result c.as_str.result.now) c.in-Err-Refused.field-0 c.in-Err-Refused.field-0-0 c.in-Err-Refused.field-0-is c.in-Err-Refused.ensures.err) in
    subst (λ (l : Rows). IsNoEntry l (requirement_text (requirement_of c.args.way.now))) (ap (λ (p : Rules). p.list) c.self.view_is) (subst (IsNoEntry list) text none)
