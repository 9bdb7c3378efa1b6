use Rattle.std.proofs.Common.{◌≡◌, ◌++◌, drop, replicate, false}
use Rattle.cs_match.specs.Sequences.{firsts_of, lasts_of}
use Rattle.cs_match.proofs.parts.Sequences.new.Given as goal

abbrev pub invariant-loop-n : goal.invariant-loop-n
invariant-loop-n l = record {
  firsts : l.firsts.items ++ firsts_of (drop l.n-index l.fn.following.items) ≡ firsts_of l.fn.following.items;
  lasts : l.lasts.items ++ lasts_of (drop l.n-index l.fn.following.items) ≡ lasts_of l.fn.following.items;
}

abbrev pub invariant-loop-k : goal.invariant-loop-k
invariant-loop-k l = record {
  firsts : l.firsts.items ≡ l.initial.firsts.items ++ replicate l.k false;
  lasts : l.lasts.items ≡ l.initial.lasts.items ++ replicate l.k false;
}
