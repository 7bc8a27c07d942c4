use Rattle.std.proofs.Common.{◌≡◌, ◌==◌, drop}
use Rattle.std.specs.List.{list_any}
use Rattle.package_sources.proofs.guess.has_tab.Given as goal

abbrev pub invariant-loop-byte : goal.invariant-loop-byte
invariant-loop-byte l = list_any (λ b. b == 9) l.bytes ≡ list_any (λ b. b == 9) (drop l.byte-index l.bytes)
