use Rattle.std.proofs.Common.{ℕ, rules, arith}
use Rattle.std.specs.Prelude.{nat_lt}
use Rattle.std.proofs.lemmas.Bool.Decides.{nat_tests}
use Rattle.std.proofs.lemmas.List.Sorted.{IsPartitionPoint-from_clause}
use Rattle.cs_syntax.proofs.CharSetLemmas.{range_ends_are_partitioned, range_found}
use Rattle.cs_syntax.proofs.char_set.is_in_canonical_ranges.Goals as goal

pub returns-then-index-ranges : goal.returns-then-index-ranges
returns-then-index-ranges c =
    let point = IsPartitionPoint-from_clause (λ (r : ℕ × ℕ). nat_lt r.1 c.args.n) c.args.ranges.now
    c.partition_point-index.result c.partition_point-index.ensures.partitioned
    (range_ends_are_partitioned c.args.ranges.now c.args.n c.requires) (λ a r q k. search rules) in
    let found = range_found 0 c.args.ranges.now c.args.n c.partition_point-index.result c.requires point in
    grind (arith, nat_tests, found, c.if-index-ranges.true)

pub returns-else-index-ranges : goal.returns-else-index-ranges
returns-else-index-ranges c =
    let point = IsPartitionPoint-from_clause (λ (r : ℕ × ℕ). nat_lt r.1 c.args.n) c.args.ranges.now
    c.partition_point-index.result c.partition_point-index.ensures.partitioned
    (range_ends_are_partitioned c.args.ranges.now c.args.n c.requires) (λ a r q k. search rules) in
    let found = range_found 0 c.args.ranges.now c.args.n c.partition_point-index.result c.requires point in
    grind (arith, nat_tests, found, c.if-index-ranges.false)
