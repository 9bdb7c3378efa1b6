use Rattle.std.proofs.Common.{length}
use Rattle.cs_index.specs.OpenedParts.{ids_read}
use Rattle.cs_index.proofs.candidates.Intersection.{rise_ascends}
use Rattle.cs_index.proofs.candidates.QueryMembers.{entry_rises}
use Rattle.cs_index.proofs.laws.ids_of_lists_ascend.Goals as goal

pub returns : goal.returns
returns c = record {
  within = entry_rises;
  ascend = λ parts e. rise_ascends (length parts.names) 0 (ids_read parts e).ids (entry_rises parts e);
}
