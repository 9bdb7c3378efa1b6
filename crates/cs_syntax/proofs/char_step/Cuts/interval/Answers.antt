use Rattle.std.proofs.Common.{ℕ, ◌-◌, ◌∙◌, ap, sym, subst, length, get_or, rules, arith}
use Rattle.std.specs.Prelude.{nat_le}
use Rattle.std.proofs.lemmas.List.Sorted.{IsPartitionPoint-from_clause, IsPartitionedBy-leb}
use Rattle.cs_syntax.specs.Cuts.{AreCuts, floor}
use Rattle.cs_syntax.proofs.CutLemmas.{increasing, interval_found}
use Rattle.cs_syntax.proofs.char_step.Cuts.interval.Goals as goal

pub overflow_sub-result : goal.overflow_sub-result
overflow_sub-result c =
    let cuts = c.deref.result.now in
    let are : AreCuts cuts = subst AreCuts (sym c.deref.ensures.value) c.self.invariant in
    let point = IsPartitionPoint-from_clause (λ k. nat_le k c.args.n) cuts c.partition_point.result c.partition_point.ensures.partitioned
    (IsPartitionedBy-leb (λ (k : ℕ). k) cuts c.args.n (increasing cuts are.0)) (λ a r q k. search rules) in
    omega (arith, (interval_found cuts c.args.n c.partition_point.result are c.partition_point.ensures.bound point).0)

pub returns : goal.returns
returns c =
    let cuts = c.deref.result.now in
    let view = c.deref.ensures.value ∙ c.self.view_is in
    let i = c.partition_point.result in
    let are : AreCuts cuts = subst AreCuts (sym c.deref.ensures.value) c.self.invariant in
    let point = IsPartitionPoint-from_clause (λ k. nat_le k c.args.n) cuts i c.partition_point.ensures.partitioned
    (IsPartitionedBy-leb (λ (k : ℕ). k) cuts c.args.n (increasing cuts are.0)) (λ a r q k. search rules) in
    let found = interval_found cuts c.args.n i are c.partition_point.ensures.bound point in
    record {
      within = omega (arith, found.0, c.partition_point.ensures.bound, ap length view);
      begins = ap (λ ks. get_or ks (i - 1) 0) (sym view) ∙ found.1 ∙ ap (λ ks. floor ks c.args.n) view;
    }
