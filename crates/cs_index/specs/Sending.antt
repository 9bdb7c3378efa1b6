-- Bytes of a new index on their way to an output.
-- docs/FORMAT.md, "The index as it is written".
use Rattle.std.specs.Prelude.{◌≡◌, ℕ, List, [], ◌++◌}

-- The bytes that were sent to an output, and those that follow them and are still in memory.
pub record Outgoing : Type 0 where
  pub sent : List ℕ
  pub unsent : List ℕ

-- all bytes, sent or not
abbrev pub bytes_in : Outgoing → List ℕ
bytes_in buffer = buffer.sent ++ buffer.unsent

-- with more bytes
abbrev pub with_bytes : Outgoing → List ℕ → Outgoing
with_bytes buffer bytes = record { sent = buffer.sent; unsent = buffer.unsent ++ bytes }

-- with all bytes sent
abbrev pub all_sent : Outgoing → Outgoing
all_sent buffer = record { sent = buffer.sent ++ buffer.unsent; unsent = [] }

-- The sent bytes grew, and the output was given the bytes by which they grew.
pub record IsSentOn (sent_before sent given_before given : List ℕ) : Type 0 where
  pub bytes : List ℕ
  pub grew : sent ≡ sent_before ++ bytes
  pub got : given ≡ given_before ++ bytes
