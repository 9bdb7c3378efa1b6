-- Prefixes of varint deltas.
use Rattle.std.specs.Prelude.{ℕ, ◌≤◌, List, length, take}
use Rattle.cs_index.specs.declared.encoded_run.Prefix.{Prefix}
use Rattle.cs_index.specs.IdStream.{IsStream}

-- The prefix of the bytes is a stream of at most `limit` ids less than `room`.
pub record IsPrefix (bytes : List ℕ) (limit room : ℕ) (prefix : Prefix) : Type 0 where
  pub stream : IsStream (take prefix.len bytes) prefix.count prefix.next
  pub within : prefix.len ≤ length bytes
  pub bound : prefix.count ≤ limit
  pub below : prefix.next ≤ room
