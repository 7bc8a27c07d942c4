use Rattle.std.proofs.Common.{◌≡◌, ◌<◌, ◌++◌, ◌∷◌, [], cond, get_or, take, length, string_bytes, bytes_eq, arith, ap, sym, ◌∙◌}
use Rattle.std.proofs.lemmas.List.{take_all}
use Rattle.spdx_policy.specs.declared.scopes.Scope.{Scope}
use Rattle.spdx_policy.specs.Scopes.{places}
use Rattle.spdx_policy.specs.Shown.{scope_row, is_named, tables_at}
use Rattle.spdx_policy.proofs.Placed.{places_more, places_map, joined}
use Rattle.spdx_policy.proofs.scopes.index_of.Goals as goal

pub loop-table-preserved : goal.loop-table-preserved
loop-table-preserved c = λ q.
    let scopes = c.args.scopes.now in
    let i = c.loop-table.table in
    let item = c.index-scopes-table.result in
    let test = λ (s : Scope). bytes_eq q (string_bytes s.name) in
    let lt : i < length scopes = omega arith in
    let same : string_bytes c.in_ok-name.name ≡ string_bytes (get_or scopes i item).name =
    c.in_ok-name.ensures.ok ∙ c.as_str.ensures.value ∙ ap (λ (s : Scope). string_bytes s.name) c.index-scopes-table.is in
    let name = string_bytes c.in_ok-name.name in
    c.in_ok-add.ensures q
    ∙ joined (bytes_eq q name) (tables_at c.loop-table.index q) (places test (take i scopes)) i (c.loop-table.invariant q)
    ∙ ap (λ n. places test (take i scopes) ++ cond (bytes_eq q n) (i ∷ []) []) same
    ∙ sym (places_more test scopes i item lt)

pub returns : goal.returns
returns c = λ q.
    let scopes = c.args.scopes.now in
    let test = λ (s : Scope). bytes_eq q (string_bytes s.name) in
    c.loop-table.invariant q ∙ ap (places test) (take_all c.loop-table.table scopes c.loop-table-test.false) ∙ sym (places_map (is_named q) scope_row scopes)
