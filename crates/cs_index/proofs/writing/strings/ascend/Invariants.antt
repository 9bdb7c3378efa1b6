use Rattle.std.proofs.Common.{◌≡◌, ◌≤◌, ◌-◌, length, map, drop, string_bytes}
use Rattle.cs_tree.specs.NamesAscending.{are_ascending}
use Rattle.cs_index.proofs.writing.strings.ascend.Given as goal

-- all paths are ascending exactly if those from the last one on are
abbrev pub invariant-paths : goal.invariant-paths
invariant-paths l = record {
  some : 1 ≤ l.at;
  left : are_ascending (map string_bytes (drop (l.at - 1) l.paths)) ≡ are_ascending (map string_bytes l.paths);
}

abbrev pub decreases-paths : goal.decreases-paths
decreases-paths l = length l.paths - l.at
