use Rattle.cs_match.proofs.SpanLemmas.{ready_length}
use Rattle.cs_match.proofs.spans.pass.Pass.is_end.Goals as goal

pub enter-accepts-requires-clause-one_each : goal.enter-accepts-requires-clause-one_each
enter-accepts-requires-clause-one_each c = ready_length _ _ _ _ _ _ _ c.requires

pub returns-clause-at : goal.returns-clause-at
returns-clause-at c = record {
  positions = c.requires.positions;
  unfinished = c.requires.unfinished;
  scratch = c.enter-accepts.ensures.scratch;
}
