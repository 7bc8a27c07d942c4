use Rattle.std.proofs.Common.{ℕ, List, map, take}
use Rattle.std.specs.Borrow.{Bor}
use Rattle.package_files.specs.Mentions.{AreNoted, first_of, mention_row}
use Rattle.package_files.proofs.shared.mentioned_twice.Given as goal

abbrev pub invariant-loop-mention : goal.invariant-loop-mention
invariant-loop-mention l =
    let shown : Bor (List ℕ) → List ℕ = λ x. x.now in
    AreNoted (map mention_row (take l.mention-index l.mentions)) (first_of l.first) (map shown l.told.items)
