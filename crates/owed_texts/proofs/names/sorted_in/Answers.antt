use Rattle.std.proofs.Common.{List, ℕ, map}
use Rattle.std.specs.Prelude.{IsPermutation, string_bytes}
use Rattle.std.proofs.lemmas.List.Sorted.{IsPermutation-map}
use Rattle.std.proofs.Common.{subst}
use Rattle.owed_texts.proofs.names.sorted_in.Goals as goal

pub returns : goal.returns
returns c = record {
  same = subst (λ (z : List (List ℕ)). IsPermutation z (map string_bytes c.sort.new.self.items)) c.in_ok-names.ensures (IsPermutation-map string_bytes _ _ c.in_ok-sort.ensures.permutation);
  ascend = c.in_ok-sort.ensures.sorted;
}
