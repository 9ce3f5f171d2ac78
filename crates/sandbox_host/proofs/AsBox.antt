-- The parts own what a box at the same types owns, and so does a handle that is not closed.
use mir.Syntax.{impl, tnil, dnil}
use mathlib.Core.List.{[]}
use denote.Signature.{Slot, plain}
use Rattle.std_alloc.proofs.BoxSteps.Form.{Bx}
use Rattle.std_heap.specs.contracts.Global as Heap
use Rattle.std_heap.specs.contracts.GlobalAllocator.TheImpl.{ghosts, dict}
use Rattle.std_heap.proofs.Global.TheLaws as heap
use Rattle.sandbox_host.specs.contracts.held.HandleContent as HandleContent
use Rattle.sandbox_host.proofs.held.HandleContent.TheLaws as held
use Rattle.sandbox_host.specs.contracts.parts.HandleParts as HandleParts
use Rattle.sandbox_host.specs.contracts.handle.Handle as Handle

abbrev pub E : Bx
E = record { row = HandleContent.the_row; laws = held.the_row_laws; al = record { row = Heap.the_row; laws = heap.the_row_laws; g = ghosts; d = dict; drops = impl [] tnil dnil } }

abbrev pub FromParts : Slot 0
FromParts = plain (λ _. HandleParts.the_row HandleContent.the_row Heap.the_row ghosts)

abbrev pub FromHandle : Slot 0
FromHandle = plain (λ _. Handle.the_row)

abbrev pub FromAlloc : Slot 0
FromAlloc = plain (λ _. Heap.the_row)
