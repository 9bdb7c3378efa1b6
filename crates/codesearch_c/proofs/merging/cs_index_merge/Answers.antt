use Rattle.std.proofs.Common.{sym, subst, w32}
use Rattle.std.proofs.lemmas.Int.{to_z-of_z}
use Rattle.codesearch_c.specs.Merging.{IsMergeOf}
use Rattle.codesearch_c.proofs.merging.cs_index_merge.Goals as goal

pub returns-in-Ok-open-clause-merged : goal.returns-in-Ok-open-clause-merged
returns-in-Ok-open-clause-merged c = λ empty. rw (← c.in-Ok.ensures.opens, ← c.in-Ok-open.ensures.opens)
    (subst (IsMergeOf c.in-Ok.older c.in-Ok-open.newer c.merge_into.new.slot.handle.value)
    (sym (to_z-of_z w32 c.merge_into.result (record { sfits = c.merge_into.type_inv }))) c.merge_into.ensures)
