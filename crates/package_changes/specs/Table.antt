-- A change as a row of a table of Markdown.
use Rattle.std.specs.Prelude.{ℕ, List, [], ◌∷◌, ◌++◌, Bool, true, false, Option, None, Some, codes, flat_map}
use Rattle.package_changes.specs.declared.tellings.Reason.{Reason}
use Rattle.package_changes.specs.declared.tellings.Reason.TheVariants.{Told, Unstated, Unread, TooManySets}
use Rattle.package_changes.specs.declared.tellings.Release.{Release}
use Rattle.package_changes.specs.declared.tellings.Telling.{Telling}
use Rattle.package_changes.specs.Tellings.{how_words, reason_words}
use Rattle.package_changes.specs.Texts.{span}

-- the version and the license of one side
unfoldable pub side_cells : Option Release → List ℕ
side_cells None = codes " |  | "
side_cells (Some r) = codes " | " ++ (span r.version.now ++ (codes " | " ++ span r.license.now))

unfoldable pub enough_note : List ℕ → List ℕ → List ℕ
enough_note [] words = []
enough_note (b ∷ bs) words = codes " " ++ (span (b ∷ bs) ++ words)

unfoldable pub reason_note : Reason → List ℕ → List ℕ
reason_note Told words = []
reason_note Unstated words = codes " " ++ (reason_words Unstated ++ words)
reason_note Unread words = codes " " ++ (reason_words Unread ++ words)
reason_note TooManySets words = codes " " ++ (reason_words TooManySets ++ words)

unfoldable pub refused_note : Bool → List ℕ
refused_note true = codes " **refused**"
refused_note false = []

unfoldable pub notes_cell : Telling → List ℕ
notes_cell t =
    enough_note t.enough_before.now (codes " was enough.") ++
    (enough_note t.enough_now.now (codes " is enough now.") ++
    (reason_note t.untold_before (codes " before.") ++
    (reason_note t.untold_now (codes " now.") ++ refused_note t.is_refused)))

unfoldable pub row_of : Telling → List ℕ
row_of t =
    codes "| " ++ (how_words t.how ++
    (codes " | " ++ (span t.name.now ++
    (side_cells t.old ++ (side_cells t.new ++ (codes " |" ++ (notes_cell t ++ codes " |\n")))))))

unfoldable pub head : List ℕ
head =
    codes "| Change | Package | Old | Old license | New | New license | |\n|---|---|---|---|---|---|---|\n"

abbrev pub table_of : List Telling → List ℕ
table_of [] = codes "No package came or went, and no license changed.\n"
table_of (t ∷ ts) = head ++ flat_map row_of (t ∷ ts)
