use Rattle.std.proofs.Common.{◌≡◌, ◌<◌, ◌≤◌, ◌^◌, ◌++◌, drop, map, flat_map}
use Rattle.std.specs.List.{AllByRecursion}
use Rattle.cs_index.specs.Encoding.{entry_bytes, ListEntry}
use Rattle.cs_index.specs.SectionsInvariant.{entry_from}
use Rattle.cs_index.proofs.writing.output.write_entries.Given as goal

-- the entries so far are written, and the remaining ones follow
abbrev pub invariant-lists : goal.invariant-lists
invariant-lists l = record {
  output : l.out.items ++ flat_map entry_bytes (map (entry_from l.start) (drop l.entry-index l.entries))
      ≡ l.initial.out.items ++ flat_map entry_bytes (map (entry_from l.start) l.entries);
  near : AllByRecursion (λ (e : ListEntry). (l.start ≤ e.offset) × (e.offset < 2 ^ 32)) (drop l.entry-index l.entries);
}
