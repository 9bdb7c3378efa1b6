use Rattle.std.proofs.Common.{ℕ, List, drop}
use Rattle.cs_syntax.specs.Matching.{MatchesSequence}
use Rattle.cs_syntax.specs.NodeList.{trees_of}
use Rattle.cs_prefilter.specs.Words.{HasWordOf}
use Rattle.cs_prefilter.specs.Runs.{RunEnds}
use Rattle.cs_prefilter.proofs.RunLemmas.{GoesOn}
use Rattle.cs_prefilter.proofs.required.keep_followed.Given as goal

abbrev pub invariant-nodes : goal.invariant-nodes
invariant-nodes l = (line : List ℕ) (i j : ℕ) → RunEnds l.fn.runs line i → MatchesSequence line (trees_of l.after) i j
    → HasWordOf line l.fn.runs.best → GoesOn line l.runs (trees_of (drop l.node-index l.after)) j
