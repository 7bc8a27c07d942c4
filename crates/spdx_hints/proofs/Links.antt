-- A step of the walk to the first link.
use Rattle.std.proofs.Common.{◌≡◌, ℕ, suc, ◌+◌, ◌-◌, ◌<◌, true, false, cond, List, length, drop, ◌∙◌, ap, arith}
use Rattle.spdx_hints.specs.Plain.{begins_link, next_link, link_from}

module _ (text : List ℕ) where
  more : (i : ℕ) → i < length text → length text - i ≡ suc (length text - (i + 1))
  more i lt = omega arith

  pub link_none : (i : ℕ) → i < length text → begins_link (drop i text) ≡ false → link_from text i ≡ link_from text (i + 1)
  link_none i lt none =
      ap (λ k. next_link text k i) (more i lt) ∙ ap (λ b. cond b i (next_link text (length text - (i + 1)) (i + 1))) none

  pub link_some : (i : ℕ) → i < length text → begins_link (drop i text) ≡ true → link_from text i ≡ i
  link_some i lt some =
      ap (λ k. next_link text k i) (more i lt) ∙ ap (λ b. cond b i (next_link text (length text - (i + 1)) (i + 1))) some
