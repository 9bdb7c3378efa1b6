use Rattle.cs_merge.proofs.ContentLemmas.{content_once}
use Rattle.cs_merge.proofs.laws.encodings_have_one_content.Goals as goal

pub returns : goal.returns
returns c = content_once
