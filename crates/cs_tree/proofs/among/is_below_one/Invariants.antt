use Rattle.std.proofs.Common.{◌≡◌, map, drop}
use Rattle.std.specs.List.{list_any}
use Rattle.std.specs.List.Sorted.{IsStrictlySortedBy}
use Rattle.cs_tree.specs.Cover.{is_ancestor}
use Rattle.cs_tree.specs.Descents.{tails}
use Rattle.cs_tree.specs.NameOrder.{bytes_cmp}
use Rattle.cs_tree.proofs.among.is_below_one.Given as goal

-- an ancestor is one of the remaining paths
abbrev pub invariant-bytes : goal.invariant-bytes
invariant-bytes g l = record {
  sorted : IsStrictlySortedBy bytes_cmp (tails g.P.AsStr.text l.at l.rest);
  left : list_any (λ above. is_ancestor above l.path) (map g.P.AsStr.text l.paths)
      ≡ list_any (λ above. is_ancestor above (drop l.at l.path)) (tails g.P.AsStr.text l.at l.rest);
}
