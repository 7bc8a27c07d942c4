-- What to write in place of a name.
use Rattle.std.specs.Prelude.{◌≡◌, ◌≢◌, ◌⊎◌, ℕ, Bool, true, false, List, Option, None, Some, bytes_eq, find, option_map}
use Rattle.spdx_requirement.specs.Rows.{Rows}
use Rattle.spdx_lexer.specs.Modes.{strict}
use Rattle.spdx_canonical.specs.Fix.{HasNoFix, IsFixOf, Reads}
use Rattle.spdx_list.specs.Files.{ExtraRows, ReplacementRow}

-- what the extras say, by the first row of just that name
abbrev pub said_replacement : ExtraRows → List ℕ → Option (List ℕ)
said_replacement x name =
    option_map (λ (r : ReplacementRow). r.write)
    (find (λ (r : ReplacementRow). bytes_eq r.name name) x.instead)

abbrev pub fix_or_said : Option (List ℕ) → ExtraRows → List ℕ → Option (List ℕ)
fix_or_said (Some fix) x name = Some fix
fix_or_said None x name = said_replacement x name

-- what the name is mended to, else what the extras say
pub record IsReplacementOf (c : Rows) (x : ExtraRows) (name : List ℕ)
    (replacement : Option (List ℕ)) : Type 0 where
  pub fix : Option (List ℕ)
  pub fix_is : IsFixOf c name fix
  pub replacement_is : replacement ≡ fix_or_said fix x name

-- only a deprecated name has one
abbrev pub IsReplacementIf : Bool → Rows → ExtraRows → List ℕ → Option (List ℕ) → Type 0
IsReplacementIf false c x name replacement = replacement ≡ None
IsReplacementIf true c x name replacement = IsReplacementOf c x name replacement

-- what is to be written is read strictly, and isn't the name itself; or the name can't be mended,
-- and the extras say so
abbrev pub Succeeds : Rows → ExtraRows → List ℕ → List ℕ → Type 0
Succeeds c x name replacement =
    (Reads c strict replacement × (replacement ≢ name)) ⊎
    (HasNoFix c name × (said_replacement x name ≡ Some replacement))
