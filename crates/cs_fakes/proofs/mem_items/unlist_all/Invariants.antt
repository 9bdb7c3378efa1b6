use Rattle.std.proofs.Common.{◌≡◌, ◌++◌, length, map, take, drop}
use Rattle.cs_fakes.specs.MemTrees.{pair_of}
use Rattle.cs_fakes.specs.MemItems.{unlisted_pair}
use Rattle.cs_fakes.proofs.mem_items.unlist_all.Given as goal

-- the items so far no longer list what the path covers
abbrev pub invariant-loop-i : goal.invariant-loop-i
invariant-loop-i l = record {
  whole : length l.items.items ≡ length l.initial.items.items;
  left : map pair_of l.items.items ≡ map (unlisted_pair l.path) (take l.i (map pair_of l.initial.items.items))
      ++ drop l.i (map pair_of l.initial.items.items);
}
