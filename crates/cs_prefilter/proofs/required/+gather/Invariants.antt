use Rattle.std.proofs.Common.{ℕ, ◌⊎◌, ◌≤◌, List, drop, vec_len}
use Rattle.cs_prefilter.specs.OffsetWork.{most_words}
use Rattle.cs_syntax.specs.Matching.{MatchesSequence, MatchesBranch}
use Rattle.cs_syntax.specs.NodeList.{trees_of}
use Rattle.cs_prefilter.specs.WordAt.{HasWord, with_newline}
use Rattle.cs_prefilter.specs.Runs.{RunEnds, RunsFollow, IsFollowed}
use Rattle.cs_prefilter.specs.declared.runs.Runs.{Runs}
use Rattle.cs_prefilter.proofs.required.+gather.Given as goal

abbrev pub invariant-gather_all-loop-i : goal.invariant-gather_all-loop-i
invariant-gather_all-loop-i l =
    (last : Runs) → RunsFollow (IsFollowed l.after (λ line i j. MatchesSequence line (trees_of (drop l.i l.parts)) i j)) l.runs last
    → RunsFollow (IsFollowed l.after (λ line i j. MatchesSequence line (trees_of l.parts) i j)) l.fn.runs last

abbrev pub invariant-best_of_each-loop-branch : goal.invariant-best_of_each-loop-branch
invariant-best_of_each-loop-branch l = record {
  few : vec_len l.words ≤ most_words;
  has : (line : List ℕ) (i j : ℕ) → RunEnds l.before line i → IsFollowed l.after (λ line i j. MatchesBranch line (trees_of l.branches) i j) line i j →
      HasWord l.words.items (with_newline line) ⊎ MatchesBranch line (trees_of (drop l.branch-index l.branches)) i j;
}
