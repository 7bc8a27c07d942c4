-- The elements of a file.
use Rattle.std.specs.Prelude.{ℕ, zero, suc, ◌-◌, ◌≤◌, ◌==◌, List, [], ◌∷◌, ◌++◌, Option, None, Some, length, if◌then◌else◌}
use Rattle.std.specs.Option.{option_to_list}
use Rattle.text_places.specs.declared.element_texts.Element.{Element}
use Rattle.text_places.specs.declared.element_texts.Step.{Step}
use Rattle.text_places.specs.Tags.{comment_len, name_end, element_behind}

-- one byte that begins no element
abbrev pub plain_step : Step
plain_step = record { element = None; read = 1 }

-- an element is read up to the end of its text
abbrev pub element_step : List ℕ → Option (Element × ℕ) → Step
element_step text None = plain_step
element_step text (Some found) = record { element = Some found.0; read = length text - found.1 }

abbrev pub name_step : List ℕ → ℕ → List ℕ → Option (List ℕ) → Step
name_step name end text None = plain_step
name_step name end text (Some behind) = element_step text (element_behind name end behind)

-- what stands at the front of a text that is not empty and goes up to the file's end
abbrev pub step_at : List ℕ → ℕ → List ℕ → Step
step_at name end text =
    if comment_len text == 0 then name_step name end text (name_end name text)
    else record { element = None; read = comment_len text }

-- the elements in a text that goes up to the file's end, of which so many bytes are read already
abbrev pub elements_from : List ℕ → ℕ → ℕ → List ℕ → List Element
elements_from name end skip [] = []
elements_from name end (suc skip) (b ∷ bs) = elements_from name end skip bs
elements_from name end zero (b ∷ bs) =
    let step = step_at name end (b ∷ bs) in
    option_to_list step.element ++ elements_from name end (step.read - 1) bs

abbrev pub elements_of : List ℕ → List ℕ → List Element
elements_of name bytes = elements_from name (length bytes) 0 bytes

-- the elements lie between these places, in order and apart from one another, each text behind its
-- attributes
abbrev pub AreInOrder : ℕ → List Element → ℕ → Type 0
AreInOrder low [] high = low ≤ high
AreInOrder low (e ∷ elements) high =
    (low ≤ e.attributes.start) × (e.attributes.start ≤ e.attributes.end) ×
    (e.attributes.end ≤ e.text.start)
    × (e.text.start ≤ e.text.end) × AreInOrder e.text.end elements high
