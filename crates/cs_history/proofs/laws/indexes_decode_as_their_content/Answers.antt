use Rattle.cs_history.proofs.HistoryLemmas.{index_decodes, index_once}
use Rattle.cs_history.proofs.laws.indexes_decode_as_their_content.Goals as goal

pub returns : goal.returns
returns c = record {
  decodes = λ history bytes left by. index_decodes history bytes left.is_history by left.is_index left.short;
  once = λ history bytes paths files left by. index_once history bytes paths files left.is_history by left.is_index left.short;
}
