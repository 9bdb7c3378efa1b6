use Rattle.std.proofs.Common.{◌≡◌, ◌<◌, ◌≤◌, ◌-◌, ◌++◌, ℕ, List, Some, length, take}
use Rattle.std.specs.Prelude.{All}
use Rattle.cs_index.specs.OpenedParts.{Parts}
use Rattle.cs_search.specs.IndexSearch.{matcher_tree}
use Rattle.cs_search.specs.Selections.{HasSelected}
use Rattle.cs_search.proofs.selection.Selection.read_all.Given as goal

abbrev pub invariant-parts : goal.invariant-parts
invariant-parts g l = record {
  within : l.from ≤ length l.ids;
  read : (bytes : List ℕ) (parts : Parts) (done : List ℕ) → g.S.Store.model l.initial.store ≡ Some bytes →
      HasSelected bytes parts done l.initial.self → All (λ id. id < length parts.names) l.ids →
      HasSelected bytes parts (done ++ take l.from l.ids) l.self;
  same : matcher_tree l.self.filter.matcher ≡ matcher_tree l.initial.self.filter.matcher;
  keeps : g.S.Store.model l.store ≡ g.S.Store.model l.initial.store;
  size : g.S.Store.size l.store ≡ g.S.Store.size l.initial.store;
  failed : g.S.Store.failed l.store ≡ g.S.Store.failed l.initial.store;
}

abbrev pub decreases-parts : goal.decreases-parts
decreases-parts g l = length l.ids - l.from
