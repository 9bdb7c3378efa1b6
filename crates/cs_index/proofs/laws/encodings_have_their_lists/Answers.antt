use Rattle.cs_index.proofs.encoding.ListsReadBack.{encoded_lists_read}
use Rattle.cs_index.proofs.laws.encodings_have_their_lists.Goals as goal

pub returns : goal.returns
returns c = encoded_lists_read
