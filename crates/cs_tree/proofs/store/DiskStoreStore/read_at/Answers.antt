use Rattle.std.proofs.Common.{rules}
use Rattle.cs_tree.proofs.store.DiskStoreStore.read_at.Goals as goal

pub returns-clause-size : goal.returns-clause-size
returns-clause-size c = search rules
