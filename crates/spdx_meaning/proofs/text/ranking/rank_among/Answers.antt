use Rattle.std.proofs.Common.{rules, of_calls, Bool, ◌∙◌}
use Rattle.std.proofs.lemmas.Fn.{always_returns_same}
use Rattle.spdx_requirement.specs.declared.requirement.LicenseReq.{LicenseReq}
use Rattle.spdx_requirement.specs.Items.{requirement_of}
use Rattle.spdx_requirement.specs.Orders.{requirement_cmp}
use Rattle.spdx_meaning.specs.Sets.{is_before}
use Rattle.spdx_meaning.proofs.Order.{requirements_total}
use Rattle.spdx_meaning.proofs.Parted.{parted}
use Rattle.spdx_meaning.proofs.Counted.{counted, count-map}
use Rattle.spdx_meaning.proofs.text.ranking.rank_among.Goals as goal

pub returns : goal.returns
returns c =
    let ordered = c.args.ordered.now in
    let r = requirement_of c.args.requirement.now in
    let p : LicenseReq → Bool = λ x. is_before requirement_cmp (requirement_of x) r in
    let point = c.partition_point.ensures.partitioned p (always_returns_same _ _ _ (λ a r f k. search (rules, of_calls))) (parted requirement_cmp requirements_total requirement_of ordered r c.requires) in
    counted p ordered c.partition_point.result c.partition_point.ensures.bound point
    ∙ count-map (λ q. is_before requirement_cmp q r) requirement_of ordered
