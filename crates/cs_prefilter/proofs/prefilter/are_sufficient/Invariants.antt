use Rattle.std.proofs.Common.{take}
use Rattle.std.specs.List.{All}
use Rattle.cs_syntax.specs.Node.{tree_of}
use Rattle.cs_prefilter.specs.WordAt.{IsSufficient}
use Rattle.cs_prefilter.proofs.prefilter.are_sufficient.Given as goal

abbrev pub invariant-loop-word : goal.invariant-loop-word
invariant-loop-word l = All (IsSufficient (tree_of l.root)) (take l.word-index l.words)
