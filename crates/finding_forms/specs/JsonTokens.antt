-- The tokens of a finding's members, as they are written. Only private clauses cite it.
use Rattle.std.specs.Prelude.{List, [], ◌∷◌, codes, decimal}
use Rattle.json.specs.Token.{Token, key, string, number}
use Rattle.finding_forms.specs.Finding.{Told, from_of, to_of}

abbrev pub place_tokens : Told → List Token
place_tokens t =
    key (codes "file") ∷ string t.file ∷ key (codes "line") ∷ number (decimal t.seen.line) ∷
    key (codes "column") ∷ number (decimal t.seen.column) ∷ []

abbrev pub fault_tokens : Told → List Token
fault_tokens t =
    key (codes "expression") ∷ string t.expression ∷ key (codes "verdict") ∷
    string (codes "refused") ∷ key (codes "start") ∷ number (decimal (from_of t)) ∷
    key (codes "end") ∷ number (decimal (to_of t)) ∷ key (codes "reason") ∷ string t.reason ∷ []
