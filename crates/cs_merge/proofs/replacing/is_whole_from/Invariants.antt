use Rattle.std.proofs.Common.{◌≡◌}
use Rattle.cs_merge.proofs.Common.{Parts, AreRead, IsStored, are_whole_from}
use Rattle.cs_merge.proofs.replacing.is_whole_from.Given as goal

abbrev pub invariant-positions : goal.invariant-positions
invariant-positions g l = record {
  whole : AreRead (g.S.Store.model l.fn.store) l.fn.reader → (parts : Parts) → IsStored (g.S.Store.model l.fn.store)
      l.tables parts → are_whole_from parts l.position ≡ are_whole_from parts l.fn.start;
  read : AreRead (g.S.Store.model l.fn.store) l.fn.reader → AreRead (g.S.Store.model l.fn.store) l.reader;
  keeps : g.S.Store.model l.store ≡ g.S.Store.model l.fn.store;
  size : g.S.Store.size l.store ≡ g.S.Store.size l.fn.store;
  failed : g.S.Store.failed l.store ≡ g.S.Store.failed l.fn.store;
}
