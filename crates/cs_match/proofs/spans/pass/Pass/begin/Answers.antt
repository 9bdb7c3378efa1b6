use Rattle.std.proofs.Common.{◌∙◌}
use Rattle.cs_match.proofs.SpanLemmas.{begins_blank}
use Rattle.cs_match.proofs.spans.pass.Pass.begin.Goals as goal

pub returns-clause-at : goal.returns-clause-at
returns-clause-at c = λ whole until.
    record {
      positions = c.clear.ensures
          ∙ begins_blank whole c.args.program.now c.args.line.now c.args.from until c.args.self.now.positions c.requires.ready.0;
      unfinished = c.unfinished_before-before.ensures.is;
      scratch = c.requires.ready.1;
    }
