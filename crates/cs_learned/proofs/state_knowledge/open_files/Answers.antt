use Rattle.cs_learned.proofs.StateKnowledgeLemmas.{opened_for, some_in}
use Rattle.cs_learned.proofs.state_knowledge.open_files.Goals as goal

pub returns-in-Ok-Some : goal.returns-in-Ok-Some
returns-in-Ok-Some g c root tree left =
    let index = some_in _ c.in-Ok-Some.field-0 c.in-Ok-Some.state c.in-Ok-Some.field-0-is (c.in-Ok-Some.ensures.index left.0.bytes left.0.file) in
    opened_for g.S.Store.model _ root tree c.args.prepared left c.open-in-Ok-Some.result
    (c.open-in-Ok-Some.ensures.reads c.args.prepared.closed.key left.0.bytes left.0.parts index left.0.is_state)
    c.open-in-Ok-Some.ensures.options
