use Rattle.cs_learned.proofs.StateKnowledgeLemmas.{still_kept}
use Rattle.cs_learned.proofs.state_knowledge.StateKnowledgeKnowledge.skips.Goals as goal

pub returns-clause-holds : goal.returns-clause-holds
returns-clause-holds g c tree held =
    still_kept g.S.Store.model _ _ _ tree c.meet.new.self.known c.skips.new.self c.skips.ensures.root c.skips.ensures.keeps
    (c.in_ok-meet.ensures.holds tree held)

pub returns-clause-notes : goal.returns-clause-notes
returns-clause-notes g c stamps at seen = c.skips.ensures.notes stamps at (c.meet.ensures.notes stamps seen)

pub returns-in_err-meet-clause-notes : goal.returns-in_err-meet-clause-notes
returns-in_err-meet-clause-notes g c stamps at seen = c.meet.ensures.notes stamps seen
