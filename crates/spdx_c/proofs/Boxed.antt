-- A box of a catalogue, as the proofs of `Box` have it.
use mir.Syntax.{impl, tnil, dnil}
use mathlib.Core.List.{[]}
use denote.Signature.{Slot, plain}
use Rattle.std_alloc.proofs.BoxSteps.Form.{Bx}
use Rattle.std_heap.specs.contracts.Global as Heap
use Rattle.std_heap.specs.contracts.GlobalAllocator.TheImpl.{ghosts, dict}
use Rattle.std_heap.proofs.Global.TheLaws as heap
use Rattle.spdx_catalogue.specs.contracts.catalogue.Catalogue as Catalogue
use Rattle.spdx_catalogue.proofs.catalogue.Catalogue.TheLaws as catalogue
use Rattle.spdx_c.specs.contracts.parts.Parts as Parts

abbrev pub E : Bx
E = record { row = Catalogue.the_row; laws = catalogue.the_row_laws; al = record { row = Heap.the_row; laws = heap.the_row_laws; g = ghosts; d = dict; drops = impl [] tnil dnil } }

abbrev pub AsParts : Slot 0
AsParts = plain (λ _. Parts.the_row Catalogue.the_row Heap.the_row ghosts)
