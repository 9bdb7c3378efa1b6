use Rattle.cs_merge.proofs.ContentLemmas.{content_encoded}
use Rattle.cs_merge.proofs.DecodedContentLemmas.{content_decodes}
use Rattle.cs_merge.proofs.laws.encodings_decode_as_their_content.Goals as goal

pub returns : goal.returns
returns c = record { decoded = content_encoded; decodes = content_decodes }
