use Rattle.std.proofs.Common.{◌≡◌, ◌+◌, ◌<◌, true, length}
use Rattle.std.specs.Prelude.{IfSome}
use Rattle.cs_trigram.specs.Trigram.{has}
use Rattle.cs_index.proofs.reading.rows.rarest_of.Given as goal

abbrev pub invariant-loop-number : goal.invariant-loop-number
invariant-loop-number l = record {
  within : IfSome l.rarest (λ at. at < length l.lists);
  there : IfSome l.rarest (λ at. has l.numbers (2 + at) ≡ true);
}
