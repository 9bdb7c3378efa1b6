use Rattle.cs_history.proofs.HistoryLemmas.{names_decoded, reads_agree}
use Rattle.cs_history.proofs.laws.still_reading_agrees.Goals as goal

pub returns : goal.returns
returns c = record {
  names = λ history bytes paths files left by. names_decoded history bytes paths files left.is_history by left.is_index left.short;
  sets = λ history bytes paths files tree left by. reads_agree history bytes paths files tree left.is_history by left.is_index left.short;
}
