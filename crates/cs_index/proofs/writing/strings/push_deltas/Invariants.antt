use Rattle.std.proofs.Common.{◌≡◌, ◌++◌, ℕ, List, drop}
use Rattle.std.specs.Prelude.{flat_map}
use Rattle.cs_index.specs.AscendingIds.{AscendWithin, max_ids, next_after}
use Rattle.cs_index.specs.Encoding.{deltas_from, varint}
use Rattle.cs_index.proofs.writing.strings.push_deltas.Given as goal

abbrev pub invariant-ids : goal.invariant-ids
invariant-ids l = record {
  bytes : l.out.items ++ flat_map varint (deltas_from l.next (drop l.id-index l.ids))
      ≡ l.initial.out.items ++ flat_map varint (deltas_from l.initial.next l.ids);
  rise : AscendWithin max_ids l.next (drop l.id-index l.ids);
  kept : (some : List ℕ) × (l.out.items ≡ l.initial.out.items ++ some);
  end : next_after l.next (drop l.id-index l.ids) ≡ next_after l.initial.next l.ids;
}
