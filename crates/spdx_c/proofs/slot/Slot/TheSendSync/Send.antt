use base.Shift.{Keyless}
use denote.RawPtr.{Ptr}
use denote.Struct.Struct.{exits_of}
use denote.Struct.Owning.{shape, fields, to}
use denote.Param.Send.{IsSend, AllSend, owning_send, struct_send, sendable}
use mir.Raw.{raw}
use denote.Memory.{lone}
use Rattle.std.specs.Prelude.{Option, None, Some}
use Rattle.std.proofs.Crossing.{frees}
use Rattle.std_alloc.proofs.SendSync.{quiet, lies}
use Rattle.spdx_catalogue.specs.contracts.catalogue.Catalogue as Catalogue
use Rattle.spdx_catalogue.proofs.catalogue.Catalogue.TheSendSync.{the_send as catalogue}
use Rattle.spdx_c.specs.Owned.{slot_owns, the_heap}
use Rattle.spdx_c.specs.contracts.slot.Slot.{the_row, the_type}

owned : (p : Ptr) (held : Option Catalogue.the_row.Denot) → Keyless (slot_owns p held)
owned p None = tt
owned p (Some x) = (lies Catalogue.the_row catalogue p x, frees.frees the_heap (raw (lone Catalogue.the_row.mir)) p)

pub send : IsSend the_row
send =
    let all : AllSend (fields the_type) = (search sendable, tt) in
    owning_send the_type all (λ d. owned d.at d.held) (λ k. quiet (to the_type) (exits_of k (fields the_type)) ((struct_send (shape the_type) all).leaving k))
