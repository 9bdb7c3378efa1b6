-- A handle owns nothing or a box, so it may go to another thread as what is in the box may.
use mir.Raw.{raw}
use base.Shift.{Keyless}
use denote.Memory.{lone}
use denote.RawPtr.{Ptr}
use denote.Struct.Owning.{fields}
use denote.Param.Send.{IsSend, AllSend, owning_send, sendable}
use Rattle.std.specs.Prelude.{Option, Some, None}
use Rattle.std.proofs.Crossing as heap
use Rattle.std_alloc.proofs.SendSync.{lies}
use Rattle.std_heap.specs.declared.Global.{Global}
use Rattle.std_heap.proofs.Global.TheSendSync as allocator
use Rattle.codesearch_c.specs.Slots.{holds}
use Rattle.codesearch_c.specs.declared.slot.Held.{Held}
use Rattle.codesearch_c.specs.contracts.slot.Held as Held
use Rattle.codesearch_c.specs.contracts.slot.Handle.{the_row, the_type}
use Rattle.codesearch_c.proofs.SendLemmas.{held_send}

holds-Keyless : (alloc : Global) (at : Ptr) (value : Option Held) → Keyless (holds alloc at value)
holds-Keyless alloc at None = tt
holds-Keyless alloc at (Some x) = (lies Held.the_row held_send at x, heap.frees.frees alloc (raw (lone Held.the_row.mir)) at)

pub send : IsSend the_row
send =
    let all : AllSend (fields the_type) = (search sendable, (allocator.the_field_send, tt)) in
    owning_send the_type all (λ h. holds-Keyless h.alloc h.at h.value) (λ k x w. tt)
