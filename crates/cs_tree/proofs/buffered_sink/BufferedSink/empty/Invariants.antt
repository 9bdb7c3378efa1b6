use Rattle.std.proofs.Common.{◌≡◌, ◌≤◌, ◌-◌, [], vec_len}
use Rattle.cs_tree.specs.BufferedSinks.{buffered_model}
use Rattle.cs_tree.specs.Sinks.{Grows}
use Rattle.cs_tree.proofs.buffered_sink.BufferedSink.empty.Given as goal

-- what was taken is the same
abbrev pub invariant-pieces : goal.invariant-pieces
invariant-pieces g l = record {
  within : (l.self.start ≤ l.self.end) × (l.self.end ≤ vec_len l.self.bytes);
  failed : g.O.Sink.failed l.self.inner ≡ g.O.Sink.failed l.initial.self.inner;
  taken : Grows (buffered_model g.O.Sink.model l.initial.self) (buffered_model g.O.Sink.model l.self) [];
  size : vec_len l.self.bytes ≡ vec_len l.initial.self.bytes;
}

abbrev pub decreases-pieces : goal.decreases-pieces
decreases-pieces g l = l.self.end - l.self.start
