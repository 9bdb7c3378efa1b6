use Rattle.cs_learned.proofs.NotedLemmas.{notes_none}
use Rattle.cs_learned.proofs.state_knowledge.StateKnowledgeKnowledge.begin_update.Goals as goal

pub returns : goal.returns
returns g c = record {
  notes = λ stamps seen. c.open.ensures.notes stamps
      (notes_none c.args.self.now.known c.prepare.new.self.known c.prepare.ensures.known stamps seen);
}
