use Rattle.std.proofs.Common.{◌≡◌, ◌++◌, ◌∷◌, [], map, drop, List, ℕ}
use Rattle.std.specs.Prelude.{All, filter}
use Rattle.std.specs.List.Sorted.{IsStrictlyIncreasing}
use Rattle.plain_manifests.specs.declared.sites.PlainSite.{PlainSite}
use Rattle.plain_manifests.specs.Sites.{IsDeclared, is_expression, numbers_of, texts_at}
use Rattle.plain_manifests.proofs.sites.sites_at.Given as goal

abbrev pub invariant-loop-number : goal.invariant-loop-number
invariant-loop-number l =
    let text : PlainSite → List ℕ = λ s. s.text.items in
    record {
      texts : filter (is_expression l.form) (texts_at l.declared.bytes.now l.declared.places.now)
          ≡ map text l.sites.items ++ filter (is_expression l.form) (texts_at l.declared.bytes.now (drop l.number l.declared.places.now));
      each : All (IsDeclared l.declared.bytes.now l.declared.places.now) l.sites.items;
      ascend : IsStrictlyIncreasing (numbers_of l.sites.items ++ l.number ∷ []);
    }
