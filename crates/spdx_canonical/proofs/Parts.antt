-- Parts of what has a canonical text, and of what it is.
use Rattle.std.proofs.Common.{◌≡◌, Bool, true, false, cond, List, [], ◌∷◌, Some, Ok, refl}
use Rattle.std.specs.Prelude.{codes}
use Rattle.std.specs.Result.{ok_prefix}
use Rattle.spdx_lexer.specs.Words.{Word, Spdx, Plus, Unexpected, Span, Item, words}
use Rattle.spdx_canonical.specs.Canonical.{canonical_fault}
use Rattle.spdx_canonical.specs.NextText.{is_misplaced}

-- the words that were found up to the first fault
abbrev pub words_of : List Item → List Word
words_of items = words (ok_prefix items)

-- a listed licence
abbrev pub is_spdx : Word → Bool
is_spdx (Spdx r) = true
is_spdx _ = false

pub fault_at : (b : Bool) (w : Word) (s : Span) (items : List Item) → canonical_fault b (Ok (w, s) ∷ items) ≡ cond (is_misplaced b w) (Some (Unexpected (codes "<license>" ∷ []), s)) (canonical_fault (is_spdx w) items)
fault_at true Plus s items = refl
fault_at false Plus s items = refl
fault_at b (Spdx r) s items = refl
fault_at b w s items = refl
