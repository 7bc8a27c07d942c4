-- The mended text of an expression that strict parsing refuses.
use Rattle.std.specs.Prelude.{◌≡◌, ℕ, List, Option, None, Some, Ok}
use Rattle.spdx_requirement.specs.Rows.{Rows}
use Rattle.spdx_lexer.specs.declared.token.ParseMode.{ParseMode}
use Rattle.spdx_lexer.specs.Modes.{strict, lax}
use Rattle.spdx_lexer.specs.Words.{Word}
use Rattle.spdx_parser.specs.Tree.{Tree}
use Rattle.spdx_canonical.specs.Canonical.{canonical_of, canonical_text}
use Rattle.spdx_canonical.specs.Law.{Accepts, IsSound, IsFaithful}

-- a reader in this mode accepts the text
abbrev pub Reads : Rows → ParseMode → List ℕ → Type 0
Reads c m text = (ws : List Word) × (t : Tree) × Accepts c m text ws t

-- strict parsing refuses the text, a lax reader accepts it, and strict parsing accepts its
-- canonical text, which is the fix
pub record IsFix (c : Rows) (text fix : List ℕ) : Type 0 where
  pub refused : Reads c strict text → ⊥
  pub accepted : Reads c lax text
  pub canonical : canonical_of c text ≡ Ok fix
  pub mended : Reads c strict fix

-- the text has no fix
abbrev pub HasNoFix : Rows → List ℕ → Type 0
HasNoFix c text = (fix : List ℕ) → IsFix c text fix → ⊥

-- the fix of the text, or none where it has none
abbrev pub IsFixOf : Rows → List ℕ → Option (List ℕ) → Type 0
IsFixOf c text None = HasNoFix c text
IsFixOf c text (Some fix) = IsFix c text fix

-- what is said of the fix of a text
pub record FixLaws (c : Rows) (text fix : List ℕ) : Type 0 where
  -- it needs no fix itself
  pub once : HasNoFix c fix
  -- where all its names are good, it means the tree of the text, each bare GNU licence made
  -- `-only`, and no other
  pub written : (ws : List Word) (t : Tree) → IsSound c text ws t → fix ≡ canonical_text ws
  pub faithful : (ws : List Word) (t : Tree) → IsSound c text ws t → IsFaithful c ws t
