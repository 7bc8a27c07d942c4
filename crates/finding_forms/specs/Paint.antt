-- Colours of a terminal.
use Rattle.std.specs.Prelude.{◌≡◌, ℕ, List, [], ◌∷◌, ◌++◌, codes, length, take}
use Rattle.finding_forms.specs.declared.forms.Style.{Style}
use Rattle.finding_forms.specs.declared.forms.Style.TheVariants.{Plain, Coloured}

-- what stood in the text stands at its front
abbrev pub Stays : List ℕ → List ℕ → Type 0
Stays old new = take (length old) new ≡ old

-- what begins one of a terminal's colours, and what ends each
abbrev pub paint_begins : Style → List ℕ → List ℕ
paint_begins Plain colour = []
paint_begins Coloured colour = 27 ∷ colour

abbrev pub paint_ends : Style → List ℕ
paint_ends Plain = []
paint_ends Coloured = 27 ∷ codes "[0m"

abbrev pub painted : Style → List ℕ → List ℕ → List ℕ
painted style colour text = paint_begins style colour ++ (text ++ paint_ends style)

abbrev pub bold : List ℕ
bold = codes "[1m"

abbrev pub red : List ℕ
red = codes "[1;31m"

abbrev pub cyan : List ℕ
cyan = codes "[1;36m"
