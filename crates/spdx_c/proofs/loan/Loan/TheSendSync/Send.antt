use mathlib.Core.List.{[], ◌∷◌}
use Prim.Native.Nat.{ℕ}
use base.Shift.{Keyless}
use denote.RawPtr.{Ptr}
use denote.Struct.Struct.{exits_of}
use denote.Struct.Owning.{shape, fields, to}
use denote.Param.Send.{IsSend, AllSend, owning_send, struct_send, sendable}
use Rattle.std.specs.Prelude.{Option, None, Some}
use Rattle.std_alloc.proofs.SendSync.{quiet, seen}
use Rattle.spdx_catalogue.specs.contracts.catalogue.Catalogue as Catalogue
use Rattle.spdx_catalogue.proofs.catalogue.Catalogue.TheSendSync.{the_sync as catalogue}
use Rattle.spdx_c.specs.Owned.{loan_owns}
use Rattle.spdx_c.specs.contracts.loan.Loan.{the_row, the_type}

owned : (p : Ptr) (a : ℕ) (held : Option Catalogue.the_row.Denot) → Keyless (loan_owns p a held)
owned p a None = tt
owned p a (Some x) = ((λ e. tt), seen Catalogue.the_row catalogue p x (a ∷ []))

pub send : IsSend the_row
send =
    let all : AllSend (fields the_type) = (search sendable, tt) in
    owning_send the_type all (λ d. owned d.at d.life d.held) (λ k. quiet (to the_type) (exits_of k (fields the_type)) ((struct_send (shape the_type) all).leaving k))
