use Rattle.std.proofs.Common.{ap, sym, ◌∙◌, rules}
use Rattle.cs_fakes.specs.MemTrees.{left_at, mem_snapshot}
use Rattle.cs_fakes.proofs.MemItemLemmas.{reads_on}
use Rattle.cs_fakes.proofs.mem_tree.MemTreeTree.read.Goals as goal

pub returns-in-Ok-clause-bytes : goal.returns-in-Ok-clause-bytes
returns-in-Ok-clause-bytes c = reads_on (mem_snapshot c.args.self.now) c.args.self.now.items.items
    c.args.self.now.opened _ _ c.args.self.now.consumed c.in-Ok.n c.read.new.buf
    (ap (λ xs. left_at xs c.args.self.now.consumed c.args.self.now.opened) (sym c.deref.ensures.value)
    ∙ sym c.in-Some.ensures.model) c.in-Ok.ensures.within c.in-Ok.ensures.bytes

pub returns-in-Err-clause-fault : goal.returns-in-Err-clause-fault
returns-in-Err-clause-fault c = search rules

pub returns-in-Ok-clause-step : goal.returns-in-Ok-clause-step
returns-in-Ok-clause-step c = search rules
