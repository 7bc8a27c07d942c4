-- The line of totals.
use Rattle.std.specs.Prelude.{ℕ, List, [], ◌∷◌, ◌++◌, ◌==◌, if◌then◌else◌, codes, decimal}

-- so many of a noun: `1 file`, `2 files`
abbrev pub counted : ℕ → List ℕ → List ℕ
counted count noun = decimal count ++ (32 ∷ (noun ++ (if count == 1 then [] else codes "s")))

abbrev pub totals_text : ℕ → ℕ → ℕ → List ℕ
totals_text expressions files refused =
    counted expressions (codes "expression") ++
    (codes " in " ++ (counted files (codes "file") ++
    (codes ", " ++ (decimal refused ++ codes " refused\n"))))
