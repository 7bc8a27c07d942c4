-- The text of the refusal.
use Rattle.std.specs.Prelude.{ℕ, List, ◌++◌, codes}
use Rattle.std.specs.Fmt.{decimal}
use Rattle.spdx_meaning.specs.declared.error.TooManySets.{TooManySets}

abbrev pub too_many_text : TooManySets → List ℕ
too_many_text e =
    codes "the license expression makes " ++
    (decimal e.0 ++ codes " sets of requirements which exceeds the limit of 4096")
