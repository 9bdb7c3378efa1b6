use Rattle.std.proofs.Common.{◌≡◌, ◌+◌, ◌-◌, true, length}
use Rattle.cs_tree.specs.StreamModels.{ends}
use Rattle.cs_tree.specs.Transfers.{Consumes, IsAt}
use Rattle.cs_lines.specs.Buffer.{pending_bytes}
use Rattle.cs_lines.proofs.buffer.LineBuffer.begin_with.Given as goal

abbrev pub invariant-pieces : goal.invariant-pieces
invariant-pieces g l = record {
  room : length (pending_bytes l.self) + l.self.left ≡ l.limit;
  read : Consumes (g.R.Source.model l.fn.input) (g.R.Source.model l.input) (pending_bytes l.self);
  ended : l.self.ended ≡ true → IsAt ends (g.R.Source.model l.input);
  failed : g.R.Source.failed l.input ≡ g.R.Source.failed l.fn.input;
  keeps : g.R.Source.Keeps l.fn.input l.input;
}

abbrev pub decreases-pieces : goal.decreases-pieces
decreases-pieces g l = 8000 - length (pending_bytes l.self)
