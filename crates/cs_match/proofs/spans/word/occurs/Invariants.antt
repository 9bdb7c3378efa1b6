use Rattle.std.proofs.Common.{◌↔◌}
use Rattle.cs_match.specs.OneWord.{OccursAt}
use Rattle.cs_match.proofs.OneWordLemmas.{OccursFrom}
use Rattle.cs_match.proofs.spans.word.occurs.Given as goal

-- the sets before this index have their bytes
abbrev pub invariant-loop-index : goal.invariant-loop-index
invariant-loop-index l = OccursFrom l.line l.word l.offset l.index ↔ OccursAt l.line l.word l.offset
