use Rattle.cs_index.proofs.candidates.PageLemmas.{all_given}
use Rattle.cs_index.proofs.reading.index.Index.candidates.Goals as goal

pub returns-clause-ids : goal.returns-clause-ids
returns-clause-ids c = all_given c.args.self.now c.args.query.now c.len.result c.candidates_from.result c.len.ensures c.candidates_from.ensures.ids
