-- The parameters of sources, stores and sinks in memory: the step of a read and the capacity of a sink.
use Rattle.std.specs.Prelude.{ℕ, List, [], length, ◌-◌, min}
use Rattle.cs_tree.specs.Sinks.{SinkModel}
use Rattle.cs_tree.specs.declared.mem_types.MemSource.{MemSource}
use Rattle.cs_tree.specs.declared.mem_types.MemStore.{MemStore}
use Rattle.cs_tree.specs.declared.mem_types.MemSink.{MemSink}

-- the most bytes of one read
abbrev pub source_step : MemSource → ℕ
source_step source = source.step

-- the remaining bytes of a source
abbrev pub bytes_left : MemSource → List ℕ
bytes_left source = source.rest.now

-- the number of bytes that a read returns for a buffer of this length
abbrev pub read_size : MemSource → ℕ → ℕ
read_size source space = min (min (source_step source) space) (length (bytes_left source))

-- the number of bytes that a read at an offset returns for a buffer of this length
abbrev pub count_at : MemStore → ℕ → ℕ → ℕ
count_at store at space = min (min store.step space) (length store.bytes.now - at)

-- the capacity of a sink
abbrev pub room_of : MemSink → ℕ
room_of sink = sink.room

-- the free capacity of a sink
abbrev pub room_left : MemSink → ℕ
room_left sink = room_of sink - length sink.bytes.items

-- the model of a sink in memory
abbrev pub sink_model : MemSink → SinkModel
sink_model sink = record { bytes = sink.bytes.items; flushed = sink.flushed; flushes = sink.flushes }

-- the model of a new sink
abbrev pub empty_sink : SinkModel
empty_sink = record { bytes = []; flushed = 0; flushes = 0 }
