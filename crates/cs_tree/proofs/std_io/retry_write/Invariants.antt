use Rattle.std.specs.Io.KnownBytes.{Keeps}
use Rattle.cs_tree.proofs.std_io.retry_write.Given as goal

abbrev pub invariant-tries : goal.invariant-tries
invariant-tries g l = record {
  keeps : Keeps (g.W.Write.contents l.initial.writer) (g.W.Write.contents l.writer);
}
