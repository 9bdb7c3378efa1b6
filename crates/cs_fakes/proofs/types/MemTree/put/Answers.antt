use Rattle.std.proofs.Common.{rules}
use Rattle.cs_fakes.proofs.MemItemLemmas.{items_are_modelled}
use Rattle.cs_fakes.proofs.types.MemTree.put.Goals as goal

pub returns-in_default-clause-modelled : goal.returns-in_default-clause-modelled
returns-in_default-clause-modelled c = items_are_modelled _

pub returns-then-eq-clause-modelled : goal.returns-then-eq-clause-modelled
returns-then-eq-clause-modelled c = items_are_modelled _

pub returns-then-not-folder_at-clause-modelled : goal.returns-then-not-folder_at-clause-modelled
returns-then-not-folder_at-clause-modelled c = items_are_modelled _

pub returns-clause-modelled : goal.returns-clause-modelled
returns-clause-modelled c = items_are_modelled _

pub returns-then-not-folder_at-clause-opened : goal.returns-then-not-folder_at-clause-opened
returns-then-not-folder_at-clause-opened c = search rules
