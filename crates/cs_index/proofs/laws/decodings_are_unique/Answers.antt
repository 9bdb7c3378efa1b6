use Rattle.cs_index.proofs.decoding.DecodingIsUnique.{decoding_is_unique}
use Rattle.cs_index.proofs.laws.decodings_are_unique.Goals as goal

pub returns : goal.returns
returns c = decoding_is_unique
