-- The line that tells how many there are.
use Rattle.std.specs.Prelude.{ℕ, List, [], ◌++◌, ◌==◌, codes, decimal, if◌then◌else◌}
use Rattle.notice_told.specs.declared.page.Totals.{Totals as Counts}

-- so many of what the word names
unfoldable pub counted : ℕ → List ℕ → List ℕ
counted count word =
    decimal count ++ (codes " " ++ (word ++ (if count == 1 then [] else codes "s")))

unfoldable pub totals_line : Counts → List ℕ
totals_line t =
    counted t.packages (codes "package") ++ (codes ": " ++
    (counted t.own (codes "own text") ++ (codes ", " ++
    (counted t.general (codes "general text") ++ (codes ", " ++
    (counted t.without (codes "package") ++ codes " without a text\n"))))))
