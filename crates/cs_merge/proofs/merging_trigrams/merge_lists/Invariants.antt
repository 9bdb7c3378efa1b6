use Rattle.std.proofs.Common.{◌≡◌, ◌+◌, ◌-◌, length}
use Rattle.cs_index.specs.Sending.{IsSentOn}
use Rattle.cs_index.specs.Written.{IsSentEarly}
use Rattle.cs_merge.proofs.Common.{known_parts, IsMergingLists}
use Rattle.cs_merge.proofs.merging_trigrams.merge_lists.Given as goal

abbrev pub invariant-lists : goal.invariant-lists
invariant-lists g l = record {
  merging : IsMergingLists (g.S.Store.model l.fn.store) l.sides.older.now l.progress.reader l.sides.newer.now
      l.sides.runs.older l.sides.runs.newer l.fn.sections l.sections l.progress.older l.progress.newer;
  sent : IsSentOn l.fn.sections.sent l.sections.sent (g.O.Output.given l.fn.out) (g.O.Output.given l.out);
  early : IsSentEarly l.sections;
  keeps_out : g.O.Output.Keeps l.fn.out l.out;
  keeps : g.S.Store.model l.store ≡ g.S.Store.model l.fn.store;
  size : g.S.Store.size l.store ≡ g.S.Store.size l.fn.store;
  failed : g.S.Store.failed l.store ≡ g.S.Store.failed l.fn.store;
}

abbrev pub decreases-lists : goal.decreases-lists
decreases-lists g l = length (known_parts l.sides.older.now).entries + length l.sides.newer.now.entries
    - (l.progress.older + l.progress.newer)
