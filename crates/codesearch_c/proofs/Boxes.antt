-- Parts and a filled handle own what a box at the same types owns.
use mir.Syntax.{impl, tnil, dnil}
use mathlib.Core.List.{[]}
use denote.Signature.{Slot, plain}
use Rattle.std_alloc.proofs.BoxSteps.Form.{Bx}
use Rattle.std_heap.specs.contracts.Global as Heap
use Rattle.std_heap.specs.contracts.GlobalAllocator.TheImpl.{ghosts, dict}
use Rattle.std_heap.proofs.Global.TheLaws as heap
use Rattle.codesearch_c.specs.contracts.slot.Held as Held
use Rattle.codesearch_c.proofs.slot.Held.TheLaws as held
use Rattle.std.proofs.Common.{◌≡◌, Option, Some, None, IsSome, refl, rules}
use Rattle.codesearch_c.specs.declared.slot.Held.{Held}
use Rattle.codesearch_c.specs.contracts.slot.parts.Parts as Parts
use Rattle.codesearch_c.specs.contracts.slot.Handle as Handle

abbrev pub E : Bx
E = record {
  row = Held.the_row;
  laws = held.the_row_laws;
  al =
      record { row = Heap.the_row; laws = heap.the_row_laws; g = ghosts; d = dict; drops = impl [] tnil dnil };
}

abbrev pub FromParts : Slot 0
FromParts = plain (λ _. Parts.the_row Held.the_row Heap.the_row ghosts)

abbrev pub FromAlloc : Slot 0
FromAlloc = plain (λ _. Heap.the_row)

abbrev pub FromHandle : Slot 0
FromHandle = plain (λ _. Handle.the_row)

-- what an option has, if it has something
abbrev pub held_in : (value : Option Held) → IsSome value → Held
held_in (Some held) some = held
held_in None some = search rules

pub held_is : (value : Option Held) (some : IsSome value) → value ≡ Some (held_in value some)
held_is (Some held) some = refl
held_is None some = search rules
