use Rattle.std.proofs.Common.{◌≡◌, ◌≤◌, ◌-◌, length, drop}
use Rattle.std.specs.Prelude.{IsUtf8}
use Rattle.std.specs.List.{AllByRecursion}
use Rattle.cs_match.specs.Lines.{terminated_lines}
use Rattle.cs_search.proofs.NameBlockLemmas.{PushesFrom}
use Rattle.cs_search.proofs.name_block.push_matching.Given as goal

abbrev pub invariant-lines : goal.invariant-lines
invariant-lines l = record {
  within : l.from ≤ length l.block;
  pushed : PushesFrom l.initial.matcher.tree l.block l.from l.initial.names.items l.names.items;
  utf8 : AllByRecursion IsUtf8 (terminated_lines l.block) → AllByRecursion IsUtf8 (terminated_lines (drop l.from l.block));
  same : l.matcher.tree ≡ l.initial.matcher.tree;
}

abbrev pub decreases-lines : goal.decreases-lines
decreases-lines l = length l.block - l.from
