-- One more word that is heard.
use Rattle.std.proofs.Common.{List, [], ◌∷◌, ◌++◌, Option, Some, refl, sym, subst}
use Rattle.std.specs.List.{fold}
use Rattle.spdx_requirement.specs.Rows.{LicenseRow}
use Rattle.spdx_lexer.specs.Words.{Word}
use Rattle.spdx_parser.specs.Last.{Last, next_last}
use Rattle.spdx_parser.specs.Heard.{listed_last, Along}

module _ {A : Type 0} (Hears : A → Option LicenseRow → Option Word → A → Type 0) where
  pub along_more : (from : A) (last : Last) (ws : List Word) (w : Word) (mid to : A) → Along Hears from last ws mid → Hears mid (listed_last (fold next_last last ws)) (Some w) to → Along Hears from last (ws ++ w ∷ []) to
  along_more from last [] w mid to e h = (to, subst (λ (x : A). Hears x (listed_last last) (Some w) to) (sym e) h, refl)
  along_more from last (v ∷ ws) w mid to (next, k, rest) h = (next, k, along_more next (next_last last v) ws w mid to rest h)
