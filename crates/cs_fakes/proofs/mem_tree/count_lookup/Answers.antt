use Rattle.std.proofs.Common.{rules}
use Rattle.cs_fakes.proofs.mem_tree.count_lookup.Goals as goal

pub returns : goal.returns
returns c = search rules
