use Rattle.std.specs.Io.KnownBytes.{Keeps}
use Rattle.cs_tree.proofs.std_io.retry_read.Given as goal

abbrev pub invariant-tries : goal.invariant-tries
invariant-tries g l = record {
  keeps : Keeps (g.R.Read.remaining l.initial.reader) (g.R.Read.remaining l.reader);
}
