-- What a slot owns, and what a loan does.
use mathlib.Core.List.{[], ◌∷◌}
use base.Fml.{Lft, Share, Fml, ftrue, fsep, fex, flft}
use base.Stored.{Coded}
use denote.RawPtr.{Ptr}
use denote.Struct.Lending.{lent_at}
use Rattle.std.specs.Prelude.{ℕ, Option, None, Some}
use Rattle.std.specs.Box.Ownership.{box_owns}
use Rattle.std.specs.declared.alloc.Global.{Global}
use Rattle.std.specs.contracts.impls.GlobalAllocator.TheImpl.{ghosts}
use Rattle.spdx_catalogue.specs.contracts.catalogue.Catalogue.{the_row}

abbrev pub rows_coded : Coded the_row.Denot
rows_coded = the_row.coded

-- a handle to the heap; the right to free a block is the same for each
abbrev pub the_heap : Global
the_heap = record { memory = record { seal = tt } }

-- nothing, or what a box at p owns
abbrev pub slot_owns : Ptr → Option the_row.Denot → Fml
slot_owns p None = ftrue
slot_owns p (Some x) = box_owns (ghosts.dealloc_token the_heap) the_row p x

-- a share of the token of the lifetime a, and what a `&` to the catalogue at p holds for that
-- lifetime
abbrev pub seen_owns : Ptr → ℕ → the_row.Denot → Fml
seen_owns p a x = fsep (fex Share (λ e. flft (a ∷ []) e)) (lent_at the_row p x (a ∷ []))

abbrev pub seen_shares : Ptr → the_row.Denot → Lft → Fml
seen_shares = lent_at the_row

-- nothing, or that
abbrev pub loan_owns : Ptr → ℕ → Option the_row.Denot → Fml
loan_owns p a None = ftrue
loan_owns p a (Some x) = seen_owns p a x
