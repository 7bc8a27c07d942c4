-- How many packages there are, and of which verdict.
use Rattle.std.specs.Prelude.{ℕ, List, [], ◌∷◌, ◌++◌, codes, decimal}
use Rattle.std.specs.Borrow.{Bor}
use Rattle.finding_forms.specs.Totals.{counted}
use Rattle.foreign_text.specs.declared.sinks.Sink.TheVariants.{Line}
use Rattle.gate_forms.specs.declared.reports.Totals.{Totals}
use Rattle.foreign_text.specs.Written.{text_for}
use Rattle.gate_forms.specs.Report.{name_text, separated}

-- so many, and words behind it
abbrev pub number_words : ℕ → List ℕ → List ℕ
number_words n words = decimal n ++ words

-- `312 packages: 309 allowed (2 by exception), 2 refused, 1 without a licence`
abbrev pub totals_words : Totals → List ℕ
totals_words t =
    counted t.packages (codes "package") ++
    (codes ": " ++ (number_words t.allowed (codes " allowed (") ++
    (number_words t.by_exception (codes " by exception), ") ++
    (number_words t.refused (codes " refused, ") ++
    number_words t.unstated (codes " without a licence")))))

abbrev pub totals_text : Totals → List ℕ
totals_text t = totals_words t ++ 10 ∷ []

-- a warning with the entries that are not used; nothing where there are none
abbrev pub unused_line : List ℕ → List (Bor (List ℕ)) → List ℕ
unused_line policy entries =
    codes "warning: " ++
    (text_for Line policy ++
    (codes ": not used: " ++ (separated (name_text Line) entries ++ 10 ∷ [])))

abbrev pub unused_text : List ℕ → List (Bor (List ℕ)) → List ℕ
unused_text policy [] = []
unused_text policy (e ∷ es) = unused_line policy (e ∷ es)
