-- Reads of a part of a store. docs/PROMISES.md, "Sources and sinks".
use Rattle.std.specs.Prelude.{◌≡◌, ℕ, List, length, take, Option, IfSome, IfOk, Result, Vec}
use Rattle.std.specs.Result.{result_map_both}
use Rattle.std.specs.declared.alloc.Global.{Global}
use Rattle.cs_tree.specs.declared.fault.IoFault.{IoFault}
use Rattle.cs_tree.specs.Store.{part_of}

-- the result, with the vector as the list of its items
abbrev pub items_of : Result (Vec ℕ Global) IoFault → Result (List ℕ) IoFault
items_of answer = result_map_both (λ v. v.items) (λ fault. fault) answer

-- The start of the buffer has all bytes at the offset, as far as they fit.
abbrev pub FillShows : Option (List ℕ) → ℕ → Result ℕ IoFault → List ℕ → Type 0
FillShows model at answer buf =
    IfSome model (λ bytes. IfOk answer (λ n. take n buf ≡ part_of bytes at (length buf)))

-- The part is that of the store's bytes.
abbrev pub PartShows : Option (List ℕ) → ℕ → ℕ → Result (List ℕ) IoFault → Type 0
PartShows model at n answer = IfSome model (λ bytes. IfOk answer (λ part. part ≡ part_of bytes at n))
