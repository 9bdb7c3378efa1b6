-- The model of a sink with a buffer: what the inner sink has, and then the bytes that it still has to get.
-- docs/PROMISES.md, "Sources and sinks".
use Rattle.std.specs.Prelude.{ℕ, List, slice_range, Option, option_map}
use Rattle.cs_tree.specs.Sinks.{SinkModel, with_bytes}
use Rattle.cs_tree.specs.declared.buffered_sink.BufferedSink.{BufferedSink}

-- the bytes that were taken and are not yet written to the inner sink
abbrev pub held_bytes : {O : Type 0} → BufferedSink O → List ℕ
held_bytes sink = slice_range sink.bytes.items sink.start sink.end

-- all bytes that were taken, and the flushes of the inner sink
abbrev pub buffered_model : {O : Type 0} → (O → Option SinkModel) → BufferedSink O → Option SinkModel
buffered_model model sink = option_map (λ inner. with_bytes inner (held_bytes sink)) (model sink.inner)
