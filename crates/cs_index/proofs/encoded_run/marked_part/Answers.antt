use Rattle.std.proofs.Common.{◌≡◌, ◌≤◌, ◌+◌, ◌-◌, ◌<◌, ◌∙◌, ℕ, List, length, take, sym, subst, arith, length-take, ap, set, true}
use Rattle.std.specs.Prelude.{sum}
use Rattle.cs_index.specs.AscendingIds.{max_ids}
use Rattle.cs_index.specs.IdStream.{ids_by_deltas, ids_in, IsMarked, IsStream}
use Rattle.cs_index.proofs.postings.EncodedRuns.{deltas_ids, deltas_stream, marked_none, marked_one, none_in, one_id, one_stream}
use Rattle.cs_index.proofs.postings.Prefixes.{no_prefix}
use Rattle.cs_index.proofs.encoded_run.marked_part.Goals as goal

pub returns-then-sum-room-clause-prefix : goal.returns-then-sum-room-clause-prefix
returns-then-sum-room-clause-prefix c =
    let prefix : List ℕ = take 8 c.args.bytes.now in
    let some = c.if-sum-gt0.true in
    let is : c.sum_of_short-sum.result ≡ sum prefix = c.sum_of_short-sum.ensures.sum some in
    let long : length prefix ≡ 8 = (let l = length-take 8 c.args.bytes.now in omega (arith, l, c.if-bytes-ge8.true)) in
    record {
      stream = subst (IsStream prefix 8) (sym is)
          (subst (λ n. IsStream prefix n (sum prefix)) long
          (deltas_stream prefix (c.sum_of_short-sum.ensures.short some) (omega (arith, is, c.if-sum-room.true, c.requires.bound))));
      within = c.if-bytes-ge8.true;
      bound = c.if-limit-ge8.true;
      below = c.if-sum-room.true;
    }

pub returns-then-sum-room-clause-marks : goal.returns-then-sum-room-clause-marks
returns-then-sum-room-clause-marks c =
    let prefix : List ℕ = take 8 c.args.bytes.now in
    let some = c.if-sum-gt0.true in
    let is : c.sum_of_short-sum.result ≡ sum prefix = c.sum_of_short-sum.ensures.sum some in
    let long : length prefix ≡ 8 = (let l = length-take 8 c.args.bytes.now in omega (arith, l, c.if-bytes-ge8.true)) in
    let ids : ids_in prefix 8 ≡ ids_by_deltas 0 prefix = ap (ids_in prefix) (sym long)
    ∙ deltas_ids prefix (c.sum_of_short-sum.ensures.short some)
    (omega (arith, is, c.if-sum-room.true, c.requires.bound)) in
    subst (λ (t : List ℕ). IsMarked c.args.at t c.args.row.now c.mark_deltas.new.row) (sym ids) c.mark_deltas.ensures

pub returns-then-delta-eq0-clause-prefix : goal.returns-then-delta-eq0-clause-prefix
returns-then-delta-eq0-clause-prefix c = no_prefix c.args.bytes.now c.args.limit c.args.room

pub returns-then-delta-eq0-clause-marks : goal.returns-then-delta-eq0-clause-marks
returns-then-delta-eq0-clause-marks c =
    subst (λ (ids : List ℕ). IsMarked c.args.at ids c.args.row.now c.args.row.now) (sym none_in) (marked_none c.args.at c.args.row.now)

pub returns-clause-prefix : goal.returns-clause-prefix
returns-clause-prefix c =
    let delta : ℕ = c.short_delta-delta.result.0 in
    let some : 0 < delta = omega (arith, c.if-delta-eq0.false) in
    let small : delta ≤ max_ids = omega (arith, c.if-delta-room.false, c.requires.bound) in
    record {
      stream = one_stream c.args.bytes.now c.short_delta-delta.result.1 delta some small (c.short_delta-delta.ensures.written some);
      within = c.short_delta-delta.ensures.within;
      bound = omega (arith, c.if-limit-eq0.false);
      below = c.if-delta-room.false;
    }

pub returns-clause-marks : goal.returns-clause-marks
returns-clause-marks c =
    let delta : ℕ = c.short_delta-delta.result.0 in
    let ids = one_id c.args.bytes.now c.short_delta-delta.result.1 delta (omega (arith, c.if-delta-eq0.false))
    (omega (arith, c.if-delta-room.false, c.requires.bound)) (c.short_delta-delta.ensures.written (omega (arith, c.if-delta-eq0.false))) in
    subst (λ (t : List ℕ). IsMarked c.args.at t c.args.row.now (set c.args.row.now (c.args.at + delta - 1) true)) (sym ids)
    (marked_one c.args.at delta c.args.row.now (omega (arith, c.if-delta-eq0.false))
    (omega (arith, c.if-delta-room.false, c.requires.within)))
