-- The result of the analysis of a tree, of the parts of a sequence and of the branches of an alternation.
use Rattle.cs_syntax.specs.Matching.{Tree, Trees, cat, alt}
use Rattle.cs_trigram.specs.SequenceQuery.{IsSequenceQueryOf, AreExactEnds, BeginRuns, AreSmall}
use Rattle.cs_trigram.specs.ExactSet.{IsExactSetOf, AreExactSetsReversed}
use Rattle.cs_trigram.specs.EndStrings.{forward, backward, AreEndStrings, AreEndStringsOfSome}
use Rattle.cs_trigram.specs.ExactQuery.{HasFewExactStrings, RequiresExactString}
use Rattle.cs_trigram.specs.Analysis.{IsCorrect, AreCorrect}
use Rattle.cs_trigram.specs.declared.analysis.RegexpInfo.{RegexpInfo}
use Rattle.cs_trigram.specs.declared.analysis.SequenceInfo.{SequenceInfo}
use Rattle.cs_trigram.specs.declared.analysis.AlternationInfo.{AlternationInfo}

pub record IsInfoOf (info : RegexpInfo) (t : Tree) : Type 0 where
  pub exact : IsExactSetOf info.exact t
  pub prefix : AreEndStrings forward info.prefix.items t
  pub suffix : AreEndStrings backward info.suffix.items t
  pub exact_prefix : AreExactEnds forward info.prefix.items t
  pub exact_suffix : AreExactEnds backward info.suffix.items t
  pub query : IsCorrect info.query t
  pub required : HasFewExactStrings t → RequiresExactString info.query t

pub record IsSequence (info : SequenceInfo) (ts : Trees) : Type 0 where
  pub exact : IsExactSetOf info.exact (cat ts)
  pub prefix : AreEndStrings forward info.prefix.items (cat ts)
  pub suffix : AreEndStrings backward info.suffix.items (cat ts)
  pub begin : BeginRuns info.prefix.items ts
  pub parts : AreExactSetsReversed info.sequence_query.parts.items ts
  pub required : IsSequenceQueryOf info.sequence_query ts
  pub small : AreSmall 0 info.sequence_query.conjuncts.items ts

pub record IsAlternation (info : AlternationInfo) (ts : Trees) : Type 0 where
  pub exact : IsExactSetOf info.exact (alt ts)
  pub prefix : AreEndStringsOfSome forward info.prefix.items ts
  pub suffix : AreEndStringsOfSome backward info.suffix.items ts
  pub members : AreCorrect info.members.items ts
