use Rattle.cs_history.proofs.HistoryLemmas.{history_content, history_lies, has_start_index}
use Rattle.cs_history.proofs.laws.histories_have_content.Goals as goal

pub returns : goal.returns
returns c = record { content = history_content; under = history_lies; start = has_start_index }
