-- Bytes of a store that are tested by sums as they are read.
use Rattle.std.specs.Prelude.{◌≡◌, ◌<◌, ◌/◌, ℕ, List, Option, Some, IfOk, Result}
use Rattle.cs_tree.specs.declared.fault.IoFault.{IoFault}
use Rattle.cs_tree.specs.declared.store.Store.{Ghosts}
use Rattle.cs_state.specs.Sums.{HasSum, piece_len}
use Rattle.cs_state.specs.declared.state_key.StateSeal.{StateSeal}
use Rattle.cs_state.specs.declared.summed_bytes.SummedBytes.{SummedBytes}

-- the bytes of the store, its length, the number of the first bytes, the seal, and the count of failures stay
abbrev pub KeepsBytes : {S : Type 0} {G : Ghosts S} → SummedBytes S G → SummedBytes S G → Type 0
KeepsBytes {G = G} old new =
    (G.model new.store ≡ G.model old.store) × (G.size new.store ≡ G.size old.store)
    × (new.len ≡ old.len) × (new.failed ≡ old.failed) × (new.seal ≡ old.seal)

-- bytes are read at an offset only from a piece that has its sum
abbrev pub ReadsSummed : StateSeal → Option (List ℕ) → ℕ → ℕ → Result ℕ IoFault → Type 0
ReadsSummed seal model len at answer =
    (all : List ℕ) → model ≡ Some all → IfOk answer (λ n. 0 < n → HasSum seal all len (at / piece_len))
