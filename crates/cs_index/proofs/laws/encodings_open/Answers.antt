use Rattle.cs_index.proofs.encoding.EncodingOpens.{encoding_has, encoding_opens}
use Rattle.cs_index.proofs.laws.encodings_open.Goals as goal

pub returns : goal.returns
returns c = record { opened = encoding_opens; has = encoding_has }
