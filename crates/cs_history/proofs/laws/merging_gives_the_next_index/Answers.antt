use Rattle.cs_history.proofs.IndexLemmas.{merged_index, opened_index}
use Rattle.cs_history.proofs.laws.merging_gives_the_next_index.Goals as goal

pub returns : goal.returns
returns c = record {
  decodes = λ before update old newer bytes is by there short found bound. merged_index before update old newer bytes is
      there short found bound by;
  opened = opened_index;
}
