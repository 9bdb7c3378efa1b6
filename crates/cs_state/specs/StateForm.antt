-- The end of a state file, and what it says of the bytes before.
use Rattle.std.specs.Prelude.{◌≡◌, ◌<◌, ◌+◌, ◌*◌, ◌^◌, ℕ, List, length, drop}
use Rattle.cs_state.specs.StateFile.{end_of}
use Rattle.cs_state.specs.Sums.{piece_count, seal_of}
use Rattle.cs_state.specs.declared.state_key.StateKey.{StateKey}
use Rattle.cs_state.specs.declared.state_key.StateSeal.{StateSeal}

-- The bytes have the form of a state file with this seal: the end follows an index of this length and its sums.
pub record HasForm (seal : StateSeal) (bytes : List ℕ) (index_len : ℕ) : Type 0 where
  pub short : length bytes < 2 ^ 32
  pub end_is : drop (index_len + 8 * piece_count index_len) bytes ≡ end_of seal index_len

-- the bytes have the form of a state file that was sealed with the key at some moment
abbrev pub IsSealed : StateKey → List ℕ → Type 0
IsSealed key bytes = (moment : ℕ) × (index_len : ℕ) × HasForm (seal_of key moment) bytes index_len
