use Rattle.std.proofs.Common.{◌≡◌, ◌≤◌, ◌-◌, length}
use Rattle.cs_tree.proofs.FillLemmas.{IsPrefix}
use Rattle.cs_tree.proofs.store.fill_at.Given as goal

-- the start of the buffer that was filled
abbrev pub invariant-reads : goal.invariant-reads
invariant-reads g l = record {
  within : l.filled ≤ length l.buf;
  len : length l.buf ≡ length l.initial.buf;
  keeps : g.S.Store.model l.store ≡ g.S.Store.model l.initial.store;
  size : g.S.Store.size l.store ≡ g.S.Store.size l.initial.store;
  failed : g.S.Store.failed l.store ≡ g.S.Store.failed l.initial.store;
  filled : IsPrefix (g.S.Store.model l.initial.store) l.at l.filled l.buf;
}

abbrev pub decreases-reads : goal.decreases-reads
decreases-reads g l = length l.buf - l.filled
