use Rattle.std.proofs.Common.{ap, rules}
use Rattle.std.specs.Prelude.{false}
use Rattle.cs_tree.specs.Snapshot.{folder}
use Rattle.cs_fakes.proofs.MemItemLemmas.{root_pushed, items_are_modelled}
use Rattle.cs_fakes.proofs.types.MemTree.new.Goals as goal

pub returns-clause-tree : goal.returns-clause-tree
returns-clause-tree c = root_pushed c.push.new.self.items c.new-items.result.items _ c.in_ok-push.ensures.items
    c.new-items.ensures.items c.in_ok-path.ensures.ok (ap (λ names. folder names false) c.new.ensures)

pub returns-clause-modelled : goal.returns-clause-modelled
returns-clause-modelled c = items_are_modelled _

pub returns-clause-step : goal.returns-clause-step
returns-clause-step c = search rules
