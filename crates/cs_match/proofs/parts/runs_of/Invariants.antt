use Rattle.std.proofs.Common.{◌≡◌, drop}
use Rattle.cs_syntax.specs.TreeList.{append}
use Rattle.cs_match.specs.Parts.{runs, shapes_of}
use Rattle.cs_match.proofs.parts.runs_of.Given as goal

abbrev pub invariant-loop-part : goal.invariant-loop-part
invariant-loop-part l = append (runs l.following.items) (shapes_of (drop l.part-index l.parts)) ≡ shapes_of l.parts
