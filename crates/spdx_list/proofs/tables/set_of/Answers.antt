use Rattle.std.proofs.Common.{arith, ◌≡◌, ◌<◌, ◌+◌, ◌++◌, ◌∷◌, [], length, map, take, string_bytes, sym, subst, ◌∙◌}
use Rattle.spdx_list.specs.Names.{Has}
use Rattle.spdx_list.proofs.Named.{has-insert, grown}
use Rattle.spdx_list.proofs.tables.set_of.Goals as goal

pub loop-name-preserved : goal.loop-name-preserved
loop-name-preserved c =
    let names = c.args.names.now in
    let i = c.loop-name.name-index in
    let item = c.name-item.result in
    let name = string_bytes c.in_ok-from_str.field-0 in
    let same : name ≡ string_bytes item = c.in_ok-from_str.ensures.ok ∙ c.as_str.ensures.value in
    let lt : i < length names = omega arith in
    let more : map string_bytes (take (i + 1) names) ≡ map string_bytes (take i names) ++ name ∷ [] = grown names i item name lt c.name-item.is same in
    subst (Has c.insert.new.self) (sym more) (has-insert c.loop-name.set c.insert.new.self (map string_bytes (take i names)) name c.loop-name.invariant c.in_ok-insert.ensures.updates)
