use Rattle.std.proofs.Common.{ℕ, ◌≤◌, List, drop}
use Rattle.std.specs.Prelude.{vec_len, IfSome}
use Rattle.cs_syntax.specs.Matching.{MatchesSequence, MatchesBranch}
use Rattle.cs_syntax.specs.NodeList.{trees_of}
use Rattle.cs_prefilter.specs.Sufficient.{MatchesPart}
use Rattle.cs_prefilter.proofs.prefilter.+matched_to.Given as goal

abbrev pub invariant-matched_to_all-loop-part : goal.invariant-matched_to_all-loop-part
invariant-matched_to_all-loop-part l = record {
  within : l.at ≤ vec_len l.word.sets;
  rest : (to : ℕ) → MatchesPart (λ line i j. MatchesSequence line (trees_of (drop l.part-index l.parts)) i j) l.word
      l.at to → MatchesPart (λ line i j. MatchesSequence line (trees_of l.parts) i j) l.word l.from to;
}

abbrev pub invariant-matched_to_some-loop-branch : goal.invariant-matched_to_some-loop-branch
invariant-matched_to_some-loop-branch l = record {
  left : (line : List ℕ) (i j : ℕ) → MatchesBranch line (trees_of (drop l.branch-index l.branches)) i j →
      MatchesBranch line (trees_of l.branches) i j;
  found : IfSome l.most (MatchesPart (λ line i j. MatchesBranch line (trees_of l.branches) i j) l.word l.from);
}
