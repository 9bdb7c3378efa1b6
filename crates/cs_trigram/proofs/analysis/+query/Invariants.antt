use Rattle.std.proofs.Common.{◌≤◌, drop, length}
use Rattle.cs_syntax.specs.NodeList.{trees_of}
use Rattle.cs_trigram.specs.RegexpInfo.{IsSequence, IsAlternation}
use Rattle.cs_trigram.proofs.analysis.+query.Given as goal

abbrev pub invariant-analyze_sequence-parts : goal.invariant-analyze_sequence-parts
invariant-analyze_sequence-parts l = (l.index ≤ length l.parts) × IsSequence l.sequence (trees_of (drop l.index l.parts))

abbrev pub decreases-analyze_sequence-parts : goal.decreases-analyze_sequence-parts
decreases-analyze_sequence-parts l = l.index

abbrev pub invariant-analyze_alternation-parts : goal.invariant-analyze_alternation-parts
invariant-analyze_alternation-parts l = (l.index ≤ length l.parts) × IsAlternation l.alternation (trees_of (drop l.index l.parts))

abbrev pub decreases-analyze_alternation-parts : goal.decreases-analyze_alternation-parts
decreases-analyze_alternation-parts l = l.index
