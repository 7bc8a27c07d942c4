-- What would make all refused packages pass.
use Rattle.std.specs.Prelude.{ℕ, List, [], ◌∷◌, ◌++◌, codes, decimal, flat_map, zero, suc}
use Rattle.finding_forms.specs.Totals.{counted}
use Rattle.foreign_text.specs.declared.sinks.Sink.TheVariants.{Line}
use Rattle.foreign_text.specs.Written.{text_for}
use Rattle.gate_forms.specs.declared.reports.Need.{Need}
use Rattle.gate_forms.specs.declared.reports.Summary.{Summary}

-- an entry, and how many packages it serves; the first says what is counted
abbrev pub first_need : Need → List ℕ
first_need n =
    text_for Line n.entry.now ++ (codes " (" ++ (counted n.packages (codes "package") ++ codes ")"))

abbrev pub next_need : Need → List ℕ
next_need n =
    codes ", " ++ (text_for Line n.entry.now ++ (codes " (" ++ (decimal n.packages ++ codes ")")))

abbrev pub needs_line : List Need → List ℕ
needs_line [] = []
needs_line (n ∷ ns) =
    codes "to pass all: allow " ++ (first_need n ++ (flat_map next_need ns ++ 10 ∷ []))

-- so many packages, and words behind them; nothing where there are none
abbrev pub count_line : ℕ → List ℕ → List ℕ
count_line zero words = []
count_line (suc n) words = counted (suc n) (codes "package") ++ words

abbrev pub summary_text : Summary → List ℕ
summary_text s =
    needs_line s.needs.now ++ (count_line s.unmet (codes " can't pass by what may be allowed\n") ++
    count_line s.not_sought (codes " without advice: too many entries to choose from\n"))
