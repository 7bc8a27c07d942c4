use Rattle.std.proofs.Common.{◌≡◌, ◌++◌, Ok, map, drop, string_bytes}
use Rattle.spdx_policy.specs.Shape.{on_ok}
use Rattle.spdx_policy.specs.Drafts.{flags_from}
use Rattle.spdx_policy.proofs.reading.draft.flags_of.Given as goal

abbrev pub invariant-loop-index : goal.invariant-loop-index
invariant-loop-index l =
    flags_from l.key 0 (map string_bytes l.words)
    ≡ on_ok (flags_from l.key l.index (map string_bytes (drop l.index l.words))) (λ more. Ok (l.flags.items ++ more))
