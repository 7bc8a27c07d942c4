-- The names of the texts that a requirement wants.
use Rattle.std.specs.Prelude.{ℕ, List, [], ◌∷◌, Option, Some, None, codes}
use Rattle.spdx_requirement.specs.Items.{LicenseTerm, listed, referred, Addition, Requirement}
use Rattle.spdx_requirement.specs.Texts.{reference_text, addition_text}

-- of a listed licence that of its row, whatever its mark; of a reference the one that it is written
-- by
abbrev pub license_wants : LicenseTerm → List ℕ
license_wants (listed r mark) = r.name
license_wants (referred r) = reference_text (codes "LicenseRef-") r.document r.name

-- of an addition the one that it is written by
abbrev pub addition_wants : Option Addition → List (List ℕ)
addition_wants None = []
addition_wants (Some a) = addition_text a ∷ []

abbrev pub wanted : Requirement → List (List ℕ)
wanted r = license_wants r.license ∷ addition_wants r.addition
