use Rattle.std.proofs.Common.{◌≡◌, ◌<◌, ◌-◌}
use Rattle.cs_trigram.specs.declared.queries.Query.{Query}
use Rattle.cs_index.specs.NameReading.{ReadsNames}
use Rattle.cs_index.specs.OpenedParts.{Parts}
use Rattle.cs_known.specs.KnownFiles.{KeepsRest, ReadsParts}
use Rattle.cs_known.proofs.NameLemmas.{ArePassedFor}
use Rattle.cs_known.proofs.types.KnownFiles.reach.Given as goal

abbrev pub invariant-names : goal.invariant-names
invariant-names g l = record {
  reads : (query : Query) (parts : Parts) (was : ReadsParts g.S.Store.model query parts l.initial.self) → l.self.id < l.self.count →
      ReadsNames was.index parts l.self.names;
  passed : (query : Query) (parts : Parts) → ReadsParts g.S.Store.model query parts l.initial.self → l.self.id < l.self.count →
      ArePassedFor parts.names l.self.id l.path;
  count : l.self.count ≡ l.initial.self.count;
  rest : KeepsRest g.S.Store.model l.initial.self l.self;
}

abbrev pub decreases-names : goal.decreases-names
decreases-names g l = l.self.count - l.self.id
