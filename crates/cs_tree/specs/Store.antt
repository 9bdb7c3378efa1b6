-- The model of a store, which is read by offset, and what a read returns. The model of an unmodelled type is None,
-- and the relations below then hold trivially.
-- docs/PROMISES.md, "Sources and sinks".
use Rattle.std.specs.Prelude.{◌≡◌, ◌<◌, ◌≤◌, ℕ, List, length, take, drop, Option, Result, IfSome, IfOk}
use Rattle.cs_tree.specs.declared.fault.IoFault.{IoFault}

-- the n bytes from an offset on, or fewer if the bytes end first
abbrev pub part_of : List ℕ → ℕ → ℕ → List ℕ
part_of bytes at n = take n (drop at bytes)

-- the model has this length
abbrev pub HasLength : Option (List ℕ) → ℕ → Type 0
HasLength model n = IfSome model (λ bytes. n ≡ length bytes)

-- the first n bytes of the buffer are those at the offset; n is 0 only for an empty buffer or at the end
abbrev pub GivesAt : List ℕ → ℕ → List ℕ → ℕ → Type 0
GivesAt bytes at buf n = (take n buf ≡ part_of bytes at n) × (n ≡ 0 → 0 < length buf → length bytes ≤ at)

-- A read returns the bytes at the offset, and none only for an empty buffer or at the end. After an error nothing is
-- known of the buffer.
abbrev pub ReadShows : Option (List ℕ) → ℕ → Result ℕ IoFault → List ℕ → Type 0
ReadShows model at answer buf = IfSome model (λ bytes. IfOk answer (GivesAt bytes at buf))
