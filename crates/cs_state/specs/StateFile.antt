-- The file of a project's state: an index of stamped names, and sums.
-- docs/FORMAT.md, "The state of a project".
use Rattle.std.specs.Prelude.{◌≡◌, ◌<◌, ◌^◌, ℕ, true, List, ◌++◌, length, codes}
use Rattle.std.specs.Int.{to_be_bytes, w64}
use Rattle.cs_index.specs.Decoding.{DecodesAs}
use Rattle.cs_index.specs.OpenedParts.{Parts}
use Rattle.cs_state.specs.Sums.{piece_count, seal_of, sum_of, sums_of}
use Rattle.cs_state.specs.declared.state_key.StateKey.{StateKey}
use Rattle.cs_state.specs.declared.state_key.StateSeal.{StateSeal}

unfoldable pub eight_bytes : ℕ → List ℕ
eight_bytes n = to_be_bytes w64 n

abbrev pub state_magic : List ℕ
state_magic = codes "codesearch state3"

-- the last piece, which is the length of the index, its sum, the moment of the seal, and the magic
abbrev pub end_of : StateSeal → ℕ → List ℕ
end_of seal index_len =
    eight_bytes index_len ++ sum_of seal (piece_count index_len) true (eight_bytes index_len) ++ eight_bytes seal.moment ++ state_magic

-- an index, the sums of its pieces, and the end
unfoldable pub sealed : StateSeal → List ℕ → List ℕ
sealed seal index = (index ++ sums_of seal index) ++ end_of seal (length index)

-- The bytes are a state, sealed with the key at some moment: its index decodes as these parts.
pub record IsState (key : StateKey) (bytes : List ℕ) (parts : Parts) : Type 0 where
  pub moment : ℕ
  pub index : List ℕ
  pub decodes : DecodesAs index parts
  pub bytes_are : bytes ≡ sealed (seal_of key moment) index
  pub short : length bytes < 2 ^ 32
