-- What a package's license says.
use Rattle.std.specs.Prelude.{◌≡◌, ◌≢◌, ℕ, List, [], Option, None, Some, Err, IsOk}
use Rattle.spdx_requirement.specs.Rows.{Rows}
use Rattle.spdx_lexer.specs.Modes.{strict}
use Rattle.spdx_parser.specs.Tree.{Tree}
use Rattle.spdx_parser.specs.Meaning.{IsRefused}
use Rattle.spdx_lexer.specs.declared.error.ParseError.{ParseError}
use Rattle.spdx_canonical.specs.Fix.{IsFixOf}
use Rattle.spdx_meaning.specs.Made.{made_in}
use Rattle.spdx_meaning.specs.Reading.{Says}
use Rattle.package_changes.specs.declared.change.reading.Untold.{Untold}
use Rattle.package_changes.specs.declared.change.reading.Untold.TheVariants.{Unstated, Unread, TooManySets}

-- a text is read as it is, but where strict reading refuses it and it has a fix, as its fix
abbrev pub read_as : List ℕ → Option (List ℕ) → List ℕ
read_as text None = text
read_as text (Some fix) = fix

abbrev pub IsReadAs : Rows → List ℕ → List ℕ → Type 0
IsReadAs c text read = (fix : Option (List ℕ)) × IsFixOf c text fix × (read ≡ read_as text fix)

-- strict reading refuses the text
abbrev pub IsNoExpression : Rows → List ℕ → Type 0
IsNoExpression c text = (fault : ParseError) × IsRefused c strict text fault

-- the license says this tree, which doesn't make too many sets
pub record IsSaid (c : Rows) (license : List ℕ) (t : Tree) : Type 0 where
  pub stated : license ≢ []
  pub read : List ℕ
  pub read_as : IsReadAs c license read
  pub says : Says c strict read t
  pub few : IsOk (made_in t)

-- it isn't told what the license asks, for this reason
abbrev pub IsUntold : Rows → List ℕ → Untold → Type 0
IsUntold c license Unstated = license ≡ []
IsUntold c license Unread =
    (license ≢ []) × ((read : List ℕ) × IsReadAs c license read × IsNoExpression c read)
IsUntold c license (TooManySets many) =
    (license ≢ []) ×
    ((read : List ℕ) × IsReadAs c license read ×
    ((t : Tree) × Says c strict read t × (made_in t ≡ Err many)))

-- why it isn't told; for no reason, it is
abbrev pub IsWhy : Rows → List ℕ → Option Untold → Type 0
IsWhy c license None = (t : Tree) × IsSaid c license t
IsWhy c license (Some why) = IsUntold c license why
