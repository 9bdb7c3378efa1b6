use Rattle.codesearch.proofs.IndexingLemmas.{keeps_history}
use Rattle.codesearch.proofs.laws.runs_keep_history.Goals as goal

pub returns : goal.returns
returns c = λ job index old new outcome earlier does premises. keeps_history job old.tree does.0 outcome earlier does.1
    (does.3.step.index.index earlier premises)
