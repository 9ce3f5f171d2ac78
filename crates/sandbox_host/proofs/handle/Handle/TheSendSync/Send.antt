-- A handle may go to another thread, as what it has and the allocator may.
use mir.Raw.{raw}
use base.Shift.{Keyless}
use denote.Memory.{lone}
use denote.RawPtr.{Ptr}
use denote.Struct.Struct.{exits_of}
use denote.Struct.Owning.{shape, fields, to}
use denote.Param.Send.{IsSend, AllSend, owning_send, struct_send, sendable}
use Rattle.std.specs.Prelude.{Option, None, Some}
use Rattle.std.proofs.Crossing as heap
use Rattle.std_alloc.proofs.SendSync.{quiet, lies}
use Rattle.std_heap.proofs.Global.TheSendSync as global
use Rattle.std_heap.specs.declared.Global.{Global}
use Rattle.std_heap.specs.contracts.GlobalAllocator.TheImpl.{ghosts}
use Rattle.sandbox_host.specs.Handles.{handle_owns}
use Rattle.sandbox_host.specs.contracts.held.HandleContent as HandleContent
use Rattle.sandbox_host.proofs.held.HandleContent.TheSendSync.{the_send as held}
use Rattle.sandbox_host.specs.contracts.handle.Handle.{the_row, the_type}

owns : (a : Global) (p : Ptr) (h : Option HandleContent.the_row.Denot) → Keyless (handle_owns (ghosts.dealloc_token a) p h)
owns a p None = tt
owns a p (Some x) = (lies HandleContent.the_row held p x, heap.frees.frees a (raw (lone HandleContent.the_row.mir)) p)

pub send : IsSend the_row
send =
    let all : AllSend (fields the_type) = (search sendable, (global.the_field_send, tt)) in
    owning_send the_type all (λ d. owns d.alloc d.at d.held)
    (λ k. quiet (to the_type) (exits_of k (fields the_type)) ((struct_send (shape the_type) all).leaving k))
