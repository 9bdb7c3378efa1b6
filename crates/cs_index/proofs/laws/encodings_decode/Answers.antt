use Rattle.cs_index.proofs.encoding.EncodingDecodes.{encoding_decodes}
use Rattle.cs_index.proofs.laws.encodings_decode.Goals as goal

pub returns : goal.returns
returns c = encoding_decodes
