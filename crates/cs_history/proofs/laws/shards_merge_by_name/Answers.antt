use Rattle.cs_history.proofs.HistoryLemmas.{history_lies}
use Rattle.cs_history.proofs.ShardLemmas.{merged_files, no_file_twice, names_merged, searched_merged}
use Rattle.cs_history.proofs.laws.shards_merge_by_name.Goals as goal

pub returns : goal.returns
returns c = record {
  files = λ p q f g apart. merged_files p f q g apart;
  once = λ p q f g name apart. no_file_twice p f q g apart name;
  names = λ p q f g bytes apart decoded. names_merged p f q g apart bytes decoded;
  searched = λ p q f g query keeps apart. searched_merged p f q g apart query keeps;
  left = λ one other is other_is outside other_outside. record {
    under = history_lies one is;
    outside =
        outside;
    other_under = history_lies other other_is;
    other_outside = other_outside;
  };
}
