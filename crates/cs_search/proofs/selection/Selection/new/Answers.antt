use Rattle.std.proofs.Common.{[], sym, subst}
use Rattle.cs_search.specs.IndexSearch.{AreKept, matcher_tree}
use Rattle.cs_search.proofs.SelectionLemmas.{kept_none}
use Rattle.cs_search.proofs.selection.Selection.new.Goals as goal

pub returns-clause-selected : goal.returns-clause-selected
returns-clause-selected c = λ bytes parts stands. record {
  reads = c.name_reader.ensures bytes parts stands;
  kept = subst (AreKept (matcher_tree c.in_ok-filter.filter.matcher) parts.names []) (sym c.new-2.ensures.items)
      (kept_none (matcher_tree c.in_ok-filter.filter.matcher) parts.names);
}
