-- What a slot holds, and what a handle owns: nothing, or a box.
use Rattle.std.specs.Prelude.{ℕ, List, Option, Some, None, Bool, true, false}
use Rattle.std.specs.Coded.{Coded, coded_option}
use base.Fml.{Fml, ftrue}
use denote.RawPtr.{Ptr}
use Rattle.std_alloc.specs.Box.Ownership.{box_owns}
use Rattle.std_heap.specs.contracts.GlobalAllocator.TheImpl.{ghosts}
use Rattle.std_heap.specs.declared.Global.{Global}
use Rattle.codesearch_c.specs.declared.slot.Held.{Held}
use Rattle.codesearch_c.specs.declared.slot.Held.TheVariants.{Pattern, Builder, Bytes}
use Rattle.cs_index.specs.Built.{Built}
use Rattle.codesearch_c.specs.Compiled.{Compiled}
use Rattle.codesearch_c.specs.contracts.slot.Held.{the_row}

-- the slot holds something
abbrev pub is_filled : Option Held → Bool
is_filled None = false
is_filled (Some held) = true

-- of a slot with a pattern, what holds of it; of each other slot, the other
abbrev pub OnPattern : Option Held → Type 0 → (Compiled → Type 0) → Type 0
OnPattern None other of_pattern = other
OnPattern (Some (Pattern held)) other of_pattern = of_pattern held
OnPattern (Some (Builder held)) other of_pattern = other
OnPattern (Some (Bytes held)) other of_pattern = other

-- the same of a slot with a builder, and of one with bytes
abbrev pub OnBuilder : Option Held → Type 0 → (Built → Type 0) → Type 0
OnBuilder None other of_builder = other
OnBuilder (Some (Pattern held)) other of_builder = other
OnBuilder (Some (Builder held)) other of_builder = of_builder held.builder
OnBuilder (Some (Bytes held)) other of_builder = other

abbrev pub OnBytes : Option Held → Type 0 → (List ℕ → Type 0) → Type 0
OnBytes None other of_bytes = other
OnBytes (Some (Pattern held)) other of_bytes = other
OnBytes (Some (Builder held)) other of_bytes = other
OnBytes (Some (Bytes held)) other of_bytes = of_bytes held.items

-- what a handle owns
abbrev pub holds : Global → Ptr → Option Held → Fml
holds alloc at None = ftrue
holds alloc at (Some x) = box_owns (ghosts.dealloc_token alloc) the_row at x

-- how the logic stores what a slot has
abbrev pub slot_code : Coded (Option Held)
slot_code = coded_option (the_row.coded)
