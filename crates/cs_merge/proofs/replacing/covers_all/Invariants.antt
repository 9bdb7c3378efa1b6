use Rattle.std.proofs.Common.{◌≡◌, map, string_bytes}
use Rattle.cs_merge.proofs.Common.{list_all, is_covered}
use Rattle.cs_tree.specs.PathSet as set
use Rattle.cs_merge.proofs.replacing.covers_all.Given as goal

abbrev pub invariant-texts : goal.invariant-texts
invariant-texts l = list_all (is_covered (set.from_list (map string_bytes l.paths))) l.text-iterator ≡ list_all (is_covered (set.from_list (map string_bytes l.paths))) l.fn.texts
