-- Requirements with the names of the texts that they want.
use Rattle.std.specs.Prelude.{ℕ, List, map, string_bytes}
use Rattle.std.specs.Global.{Vec}
use Rattle.spdx_requirement.specs.Items.{Requirement}
use Rattle.spdx_requirement.specs.Texts.{requirement_text}
use Rattle.spdx_licensee.specs.declared.texts.RequirementTexts.{RequirementTexts}
use Rattle.spdx_licensee.specs.Wanted.{wanted}

-- a requirement as it is written, and the names of the texts that it wants
pub record Named : Type 0 where
  pub name : List ℕ
  pub texts : List (List ℕ)

abbrev pub named : Requirement → Named
named r = record { name = requirement_text r; texts = wanted r }

abbrev pub shown : RequirementTexts → Named
shown t = record { name = string_bytes t.name; texts = map string_bytes t.texts.items }

abbrev pub shown_in : Vec RequirementTexts → List Named
shown_in all = map shown all.items

abbrev pub shown_all : List (Vec RequirementTexts) → List (List Named)
shown_all lists = map shown_in lists
