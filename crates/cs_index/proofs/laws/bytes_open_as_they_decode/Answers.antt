use Rattle.cs_index.proofs.decoding.DecodableBytesOpen.{opens_as_decoded, opened_decodes}
use Rattle.cs_index.proofs.laws.bytes_open_as_they_decode.Goals as goal

pub returns : goal.returns
returns c = λ bytes parts small. (opened_decodes bytes parts small, opens_as_decoded bytes parts)
