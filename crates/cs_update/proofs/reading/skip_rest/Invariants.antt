use Rattle.std.proofs.Common.{List, ℕ}
use Rattle.cs_tree.specs.Transfers.{Consumes}
use Rattle.cs_update.proofs.reading.skip_rest.Given as goal

-- bytes that were read before
abbrev pub invariant-reads : goal.invariant-reads
invariant-reads g l = record {
  read : (bytes : List ℕ) × Consumes (g.R.Source.model l.initial.source) (g.R.Source.model l.source) bytes;
  keeps : g.R.Source.Keeps l.initial.source l.source;
}
