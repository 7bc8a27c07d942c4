use Rattle.std.proofs.Common.{rules, ◌≡◌, ℕ, List, nat_lt, arith, sym, subst}
use Rattle.std.specs.List.Sorted.{IsNonDecreasing}
use Rattle.std.proofs.lemmas.List.Sorted.{IsPartitionedBy-ltb, IsPartitionPoint-from_clause}
use Rattle.spdx_catalogue.proofs.Keys.{least_found}
use Rattle.spdx_catalogue.proofs.index.least_at.Goals as goal

pub returns-2 : goal.returns-2
returns-2 c =
    let xs : List ℕ = c.as_slice-codes.result.now in
    let codes : List ℕ = c.args.index.now.codes.items in
    let same : xs ≡ codes = c.as_slice-codes.ensures.value in
    let least : ℕ = c.code-least.result in
    let split = IsPartitionPoint-from_clause (λ y. nat_lt y least) xs c.partition_point.result c.partition_point.ensures.partitioned (IsPartitionedBy-ltb (λ x. x) xs least (subst IsNonDecreasing (sym same) c.requires)) (λ a r f' k. search rules) in
    (λ m lt. omega (arith, least_found xs codes least c.partition_point.result same split m lt, c.code-least.ensures))
