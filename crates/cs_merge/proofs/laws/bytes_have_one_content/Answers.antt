use Rattle.cs_merge.proofs.DecodedContentLemmas.{decoded_once, decoded_content}
use Rattle.cs_merge.proofs.laws.bytes_have_one_content.Goals as goal

pub returns : goal.returns
returns c = record { once = decoded_once; content = decoded_content }
