use Rattle.std.proofs.Common.{◌≡◌, ◌≤◌, take, length}
use Rattle.cs_syntax.specs.TreeList.{append}
use Rattle.cs_syntax.specs.Matching.{Tree, Trees, cat, more}
use Rattle.cs_trigram.specs.ExactSet.{AreExactSetsReversed}
use Rattle.cs_trigram.specs.Analysis.{AreExactStrings}
use Rattle.cs_trigram.proofs.sequence_query.longest_leading_run.Given as goal

abbrev pub invariant-parts : goal.invariant-parts
invariant-parts l =
    (l.index ≤ length l.following)
    × ((t : Tree) (ts : Trees) → AreExactStrings l.strings t → AreExactSetsReversed l.following ts →
    (run after : Trees) × (more t ts ≡ append run after) × AreExactStrings l.leading.items (cat run) ×
    AreExactSetsReversed (take l.index l.following) after)

abbrev pub decreases-parts : goal.decreases-parts
decreases-parts l = l.index
