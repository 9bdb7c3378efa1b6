use Rattle.cs_merge.proofs.ContentLemmas.{content_merged, under_merged}
use Rattle.cs_merge.proofs.laws.merging_keeps_content.Goals as goal

pub returns : goal.returns
returns c = record { content = content_merged; under = under_merged }
