use Rattle.std.proofs.Common.{◌≡◌, ◌≤◌, ◌<◌}
use Rattle.cs_syntax.specs.CharSteps.{finished}
use Rattle.cs_match.specs.Glushkov.{unfinished_before}
use Rattle.cs_match.proofs.spans.pass.unfinished_before.Given as goal

abbrev pub invariant-loop-index : goal.invariant-loop-index
invariant-loop-index l =
    record {
      first : l.index ≤ l.from → l.unfinished ≡ finished;
      later : l.from < l.index → l.unfinished ≡ unfinished_before l.program l.line l.index;
    }
