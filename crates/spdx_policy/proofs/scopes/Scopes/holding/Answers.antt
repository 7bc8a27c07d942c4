use Rattle.std.proofs.Common.{◌≡◌, Some, None, filter, map, option_map, ap, ◌∙◌}
use Rattle.std.proofs.lemmas.Result.{IfOk-weaker}
use Rattle.std.specs.Option.{option_copied}
use Rattle.std.specs.BTreeMap.{get_by_text}
use Rattle.semver.specs.Identifiers.{parts_of}
use Rattle.spdx_policy.specs.Scopes.{holds, places, is_meant_at}
use Rattle.spdx_policy.specs.Shown.{scope_row}
use Rattle.spdx_policy.proofs.Holding.{held_nowhere, held_among}
use Rattle.spdx_policy.proofs.scopes.Scopes.holding.Goals as goal

pub returns-in_ok-version-in-Some : goal.returns-in_ok-version-in-Some
returns-in_ok-version-in-Some c =
    let index = c.self.inside.by_package in
    let rows = map scope_row c.self.inside.scopes.items in
    let name = c.args.name.now in
    let parts = option_map parts_of c.in_ok-version-in-Some.version in
    let tables = c.in-Some.tables.now in
    let some : Some tables ≡ get_by_text index name = c.in-Some.ensures.value in
    let all = held_among index rows name (option_copied c.args.version) tables parts c.self.invariant some c.in_ok-version-in-Some.ensures in
    let shown : places (holds name (option_copied c.args.version)) rows ≡ places (holds name (option_copied c.args.version)) c.args.self.now =
    ap (places (holds name (option_copied c.args.version))) c.self.view_is in
    let given = c.deref.ensures.value in
    let among = c.deref-in-Some.ensures.value in
    IfOk-weaker c.meant.result _ _ (λ m is. is
    ∙ ap (λ ts. filter (is_meant_at (map scope_row c.deref.result.now) parts) ts) among
    ∙ ap (λ ss. filter (is_meant_at (map scope_row ss) parts) tables.items) given
    ∙ all ∙ shown) c.meant.ensures

pub returns-in-None : goal.returns-in-None
returns-in-None c =
    let index = c.self.inside.by_package in
    let rows = map scope_row c.self.inside.scopes.items in
    let none : None ≡ get_by_text index c.args.name.now = c.in-None.ensures.value in
    c.new.ensures.items
    ∙ held_nowhere index rows c.args.name.now (option_copied c.args.version) c.self.invariant none
    ∙ ap (places (holds c.args.name.now (option_copied c.args.version))) c.self.view_is
