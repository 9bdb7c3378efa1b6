use Rattle.cs_merge.proofs.DecodedContentLemmas.{decoded_names, decoded_set}
use Rattle.cs_merge.proofs.laws.names_have_their_sets.Goals as goal

pub returns : goal.returns
returns c = record { names = decoded_names; sets = decoded_set }
