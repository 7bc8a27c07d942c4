use Rattle.std.proofs.Common.{rules}
use Rattle.std.proofs.lemmas.List.Sorted.{IsNonDecreasingBy-from_sort_by_key}
use Rattle.manifests.specs.declared.site.Site.{Site}
use Rattle.check_sources.proofs.findings.declared.in_order.Goals as goal

pub returns : goal.returns
returns c = record {
  same = c.in_ok-sort_by_key.ensures.permutation;
  ascends = IsNonDecreasingBy-from_sort_by_key (λ (s : Site). s.span.start) _ c.in_ok-sort_by_key.ensures.sorted (λ a r q k. search rules);
}
