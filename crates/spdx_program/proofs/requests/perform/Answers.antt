use Rattle.spdx_program.proofs.Statuses.{low}
use Rattle.std.proofs.Common.{refl}
use Rattle.spdx_program.proofs.requests.perform.Goals as goal

pub returns-in-Check-clause-does : goal.returns-in-Check-clause-does
returns-in-Check-clause-does g c = record { performs = rw c.in-Check.is c.check.ensures }

pub returns-in-Check-clause-low : goal.returns-in-Check-clause-low
returns-in-Check-clause-low g c = low _ _ _ _ _ _ ((returns-in-Check-clause-does g c).performs)

pub returns-in-Check-clause-kept : goal.returns-in-Check-clause-kept
returns-in-Check-clause-kept g c = λ _. refl

pub returns-in-Fix-clause-does : goal.returns-in-Fix-clause-does
returns-in-Fix-clause-does g c = record { performs = rw c.in-Fix.is c.fix.ensures.does }

pub returns-in-Fix-clause-low : goal.returns-in-Fix-clause-low
returns-in-Fix-clause-low g c = low _ _ _ _ _ _ ((returns-in-Fix-clause-does g c).performs)

pub returns-in-Fix-clause-kept : goal.returns-in-Fix-clause-kept
returns-in-Fix-clause-kept g c = rw c.in-Fix.is c.fix.ensures.kept

pub returns-in-Gate-clause-does : goal.returns-in-Gate-clause-does
returns-in-Gate-clause-does g c = record { performs = rw c.in-Gate.is c.gate.ensures }

pub returns-in-Gate-clause-low : goal.returns-in-Gate-clause-low
returns-in-Gate-clause-low g c = low _ _ _ _ _ _ ((returns-in-Gate-clause-does g c).performs)

pub returns-in-Gate-clause-kept : goal.returns-in-Gate-clause-kept
returns-in-Gate-clause-kept g c = λ _. refl

pub returns-in-Notice-clause-does : goal.returns-in-Notice-clause-does
returns-in-Notice-clause-does g c = record { performs = rw c.in-Notice.is c.notice.ensures }

pub returns-in-Notice-clause-low : goal.returns-in-Notice-clause-low
returns-in-Notice-clause-low g c = low _ _ _ _ _ _ ((returns-in-Notice-clause-does g c).performs)

pub returns-in-Notice-clause-kept : goal.returns-in-Notice-clause-kept
returns-in-Notice-clause-kept g c = λ _. refl

pub returns-in-Compare-clause-does : goal.returns-in-Compare-clause-does
returns-in-Compare-clause-does g c = record {
  performs = rw c.in-Compare.is (c.compare.ensures, record { noted = refl; heard = refl });
}

pub returns-in-Compare-clause-low : goal.returns-in-Compare-clause-low
returns-in-Compare-clause-low g c = low _ _ _ _ _ _ ((returns-in-Compare-clause-does g c).performs)

pub returns-in-Compare-clause-kept : goal.returns-in-Compare-clause-kept
returns-in-Compare-clause-kept g c = λ _. refl

pub returns-in-Simplify-clause-does : goal.returns-in-Simplify-clause-does
returns-in-Simplify-clause-does g c = record { performs = rw c.in-Simplify.is c.simplify.ensures }

pub returns-in-Simplify-clause-low : goal.returns-in-Simplify-clause-low
returns-in-Simplify-clause-low g c = low _ _ _ _ _ _ ((returns-in-Simplify-clause-does g c).performs)

pub returns-in-Simplify-clause-kept : goal.returns-in-Simplify-clause-kept
returns-in-Simplify-clause-kept g c = λ _. refl

pub returns-in-Show-clause-does : goal.returns-in-Show-clause-does
returns-in-Show-clause-does g c = record { performs = rw c.in-Show.is c.show.ensures }

pub returns-in-Show-clause-low : goal.returns-in-Show-clause-low
returns-in-Show-clause-low g c = low _ _ _ _ _ _ ((returns-in-Show-clause-does g c).performs)

pub returns-in-Show-clause-kept : goal.returns-in-Show-clause-kept
returns-in-Show-clause-kept g c = λ _. refl

pub returns-in-Make-clause-does : goal.returns-in-Make-clause-does
returns-in-Make-clause-does g c = record {
  performs = rw c.in-Make.is (c.make.ensures, record { noted = refl; heard = refl });
}

pub returns-in-Make-clause-low : goal.returns-in-Make-clause-low
returns-in-Make-clause-low g c = low _ _ _ _ _ _ ((returns-in-Make-clause-does g c).performs)

pub returns-in-Make-clause-kept : goal.returns-in-Make-clause-kept
returns-in-Make-clause-kept g c = λ _. refl

pub returns-in-Diff-clause-does : goal.returns-in-Diff-clause-does
returns-in-Diff-clause-does g c = record {
  performs = rw c.in-Diff.is (c.diff.ensures, record { noted = refl; heard = refl });
}

pub returns-in-Diff-clause-low : goal.returns-in-Diff-clause-low
returns-in-Diff-clause-low g c = low _ _ _ _ _ _ ((returns-in-Diff-clause-does g c).performs)

pub returns-in-Diff-clause-kept : goal.returns-in-Diff-clause-kept
returns-in-Diff-clause-kept g c = λ _. refl

pub returns-in-Changes-clause-does : goal.returns-in-Changes-clause-does
returns-in-Changes-clause-does g c = record { performs = rw c.in-Changes.is c.changes.ensures }

pub returns-in-Changes-clause-low : goal.returns-in-Changes-clause-low
returns-in-Changes-clause-low g c = low _ _ _ _ _ _ ((returns-in-Changes-clause-does g c).performs)

pub returns-in-Changes-clause-kept : goal.returns-in-Changes-clause-kept
returns-in-Changes-clause-kept g c = λ _. refl
