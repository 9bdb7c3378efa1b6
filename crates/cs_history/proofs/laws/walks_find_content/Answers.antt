use Rattle.cs_history.proofs.HistoryLemmas.{walk_content, walk_lies}
use Rattle.cs_history.proofs.laws.walks_find_content.Goals as goal

pub returns : goal.returns
returns c = record { content = walk_content; under = walk_lies }
