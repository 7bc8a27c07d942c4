use Rattle.std.proofs.Common.{◌≡◌, ℕ, List, ◌++◌, map, take, flat_map}
use Rattle.std.specs.Borrow.{Bor}
use Rattle.license_notice.specs.Wanted.{texts_of}
use Rattle.license_notice.proofs.texts.put_texts.Given as goal

abbrev pub invariant-loop-requirement : goal.invariant-loop-requirement
invariant-loop-requirement l =
    map (λ (t : Bor (List ℕ)). t.now) l.texts.items ≡ map (λ (t : Bor (List ℕ)). t.now) l.initial.texts.items ++ flat_map texts_of (take l.requirement-index l.choice)
