use Rattle.std.proofs.Common.{◌≡◌, ◌++◌, length, false}
use Rattle.cs_state.specs.SummedOutputs.{IsSummed, bytes_given}
use Rattle.cs_state.proofs.summing.SummedOutputOutput.append.Given as goal

abbrev pub invariant-pieces : goal.invariant-pieces
invariant-pieces g l = record {
  given : bytes_given g.O.Output.given l.self ++ l.rest ≡ bytes_given g.O.Output.given l.fn.self ++ l.fn.bytes;
  whole : l.self.whole ≡ false;
  before : l.whole ≡ l.fn.self.whole;
  summed : IsSummed g.O.Output.given l.fn.self → IsSummed g.O.Output.given l.self;
  seal : l.self.seal ≡ l.fn.self.seal;
  keeps : g.O.Output.Keeps l.fn.self.out l.self.out;
}

abbrev pub decreases-pieces : goal.decreases-pieces
decreases-pieces g l = length l.rest
