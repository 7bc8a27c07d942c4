-- What references point to.
use Rattle.std.specs.Prelude.{List, map}
use Rattle.std.specs.Borrow.{Bor}

abbrev pub nows : {A : Type 0} → List (Bor A) → List A
nows xs = map (λ x. x.now) xs
