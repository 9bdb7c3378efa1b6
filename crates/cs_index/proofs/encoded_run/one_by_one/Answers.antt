use Rattle.std.proofs.Common.{◌≤◌, ◌<◌, ◌-◌, List, ℕ, length, take, drop, arith}
use Rattle.cs_index.specs.AscendingIds.{max_ids}
use Rattle.cs_index.specs.declared.encoded_run.Prefix.{Prefix}
use Rattle.cs_index.proofs.postings.EncodedRuns.{one_stream}
use Rattle.cs_index.proofs.postings.Prefixes.{longer, no_prefix}
use Rattle.cs_index.proofs.encoded_run.one_by_one.Goals as goal

pub ids-init : goal.ids-init
ids-init c = no_prefix c.args.bytes.now c.args.limit c.args.room

pub ids-preserved : goal.ids-preserved
ids-preserved c =
    let delta : ℕ = c.short_delta-delta.result.0 in
    let size : ℕ = c.short_delta-delta.result.1 in
    let rest : List ℕ = take (length c.args.bytes.now - c.ids.len) (drop c.ids.len c.args.bytes.now) in
    let one : Prefix = record { len = size; count = 1; next = delta } in
    let i = c.ids.invariant in
    let some : 0 < delta = omega arith in
    let small : delta ≤ max_ids = omega (arith, c.requires, i.below) in
    longer c.args.bytes.now c.args.limit c.args.room c.ids.len c.ids.count c.ids.next one c.requires i
    (record {
      stream = one_stream rest size delta some small (c.short_delta-delta.ensures.written some);
      within = c.short_delta-delta.ensures.within;
      bound = omega arith;
      below = omega arith;
    })
