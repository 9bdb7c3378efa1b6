-- The model of a sink, and how writes and flushes change it. The model of an unmodelled type is None, and the
-- relations below then hold trivially.
-- docs/PROMISES.md, "Sources and sinks".
use Rattle.std.specs.Prelude.{◌≡◌, ◌⊎◌, ℕ, List, [], ◌++◌, length, take, Option, Some, None, IfSome, Result, MatchResult, Bool, true, false}
use Rattle.cs_tree.specs.declared.fault.IoFault.{IoFault}
use Rattle.cs_tree.specs.Failures.{next_count}

-- The bytes that were written, the number of those that are flushed, and the number of flushes (at most 2^64 - 1).
pub record SinkModel : Type 0 where
  pub bytes : List ℕ
  pub flushed : ℕ
  pub flushes : ℕ

-- the model after more bytes are written, without a flush
abbrev pub with_bytes : SinkModel → List ℕ → SinkModel
with_bytes sink bytes = record sink { bytes = sink.bytes ++ bytes }

-- the model after a flush
abbrev pub after_flush : SinkModel → SinkModel
after_flush sink = record sink { flushed = length sink.bytes; flushes = next_count sink.flushes }

-- these bytes were written, and nothing was flushed
abbrev pub Grows : Option SinkModel → Option SinkModel → List ℕ → Type 0
Grows sink later bytes = IfSome sink (λ was. later ≡ Some (with_bytes was bytes))

-- all written bytes were flushed
abbrev pub HasFlushed : Option SinkModel → Type 0
HasFlushed sink = IfSome sink (λ now. now.flushed ≡ length now.bytes)

-- these bytes were written, and then there was one flush
abbrev pub GrowsFlushed : Option SinkModel → Option SinkModel → List ℕ → Type 0
GrowsFlushed None later bytes = HasFlushed later
GrowsFlushed (Some was) later bytes = later ≡ Some (after_flush (with_bytes was bytes))

-- A write appends a prefix of its bytes. On error it appends nothing.
abbrev pub Writes : Option SinkModel → Option SinkModel → Result ℕ IoFault → List ℕ → Type 0
Writes sink later answer buf =
    MatchResult answer (λ n. Grows sink later (take n buf)) (λ fault. Grows sink later [])

-- A flush flushes all bytes that were written. On error it flushes none.
abbrev pub Flushes : {A E : Type 0} → Option SinkModel → Option SinkModel → Result A E → Type 0
Flushes sink later answer = MatchResult answer (λ _. GrowsFlushed sink later []) (λ _. Grows sink later [])

-- the failure counts of two outputs after a call, given whether a call of one of them failed
abbrev pub CountsOne : Bool → ℕ → ℕ → ℕ → ℕ → Type 0
CountsOne true out out' err err' = ((out' ≡ next_count out) × (err' ≡ err)) ⊎ ((out' ≡ out) × (err' ≡ next_count err))
CountsOne false out out' err err' = (out' ≡ out) × (err' ≡ err)
