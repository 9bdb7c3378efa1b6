use Rattle.std.proofs.Common.{◌≡◌, ◌<◌, ℕ, List, Some, length, take}
use Rattle.std.specs.Prelude.{All}
use Rattle.cs_index.specs.NameReading.{ReadsNames}
use Rattle.cs_index.specs.OpenedParts.{Parts}
use Rattle.cs_match.specs.Skipping.{AreWholeLines}
use Rattle.cs_search.specs.IndexSearch.{names_at}
use Rattle.cs_search.specs.Selections.{IsBlockOf}
use Rattle.cs_search.proofs.name_block.read_block.Given as goal

abbrev pub invariant-ids : goal.invariant-ids
invariant-ids g l = record {
  whole : AreWholeLines l.block.items;
  read : (bytes : List ℕ) (parts : Parts) → g.S.Store.model l.initial.store ≡ Some bytes →
      ReadsNames bytes parts l.initial.reader → All (λ id. id < length parts.names) l.ids →
      ReadsNames bytes parts l.reader × IsBlockOf (names_at parts.names (take l.id-index l.ids)) l.block.items;
  keeps : g.S.Store.model l.store ≡ g.S.Store.model l.initial.store;
  size : g.S.Store.size l.store ≡ g.S.Store.size l.initial.store;
  failed : g.S.Store.failed l.store ≡ g.S.Store.failed l.initial.store;
}
