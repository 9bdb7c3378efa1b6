use Rattle.std.proofs.Common.{◌≡◌, ℕ, ◌+◌, ◌-◌, ◌/◌, ◌<◌, ◌≤◌, List, [], ◌∷◌, ◌++◌, length, get_or, sym, subst, ◌∙◌, arith}
use Rattle.std.specs.Prelude.{slice_index_or}
use Rattle.cs_match.specs.declared.lanes.Table.{Table}
use Rattle.cs_match.specs.declared.lanes.Lane.{Lane}
use Rattle.cs_match.specs.MatchingEnds.{newlines_between}
use Rattle.cs_match.specs.Lanes.{IsLane, IsChunk, IsLaneOf}
use Rattle.cs_match.proofs.MatchingEndLemmas.{newlines-rise}
use Rattle.cs_match.proofs.ChunkLemmas.{four, quarter-a, quarter-b, quarter-c, quarter-d}
use Rattle.cs_match.proofs.lanes.four_lanes.Goals as goal

moved : (t : Table) (block : List ℕ) (at to : ℕ) (lane : Lane) (ends : List ℕ) → at ≡ to → IsLane t block at lane ends → IsLane t block to lane ends
moved t block at to lane ends e is = subst (λ k. IsLane t block k lane ends) e is

-- the list of a lane in its chunk has room for one more end
room : (block : List ℕ) (first from to i most len : ℕ) → first ≡ from → i < to - from → IsChunk block most from to → most ≡ len →
    newlines_between block first (from + i + 1) ≤ len
room block first from to i most len e low chunk size = subst (λ f. newlines_between block f (from + i + 1) ≤ len) (sym e)
    (omega (arith, newlines-rise block from (from + i + 1) to (omega arith) (omega (arith, low)), chunk.few, size))

-- a lane is within its chunk, and its list has room for the ends in the chunk
within : (block : List ℕ) (most from to i : ℕ) → i < to - from → IsChunk block most from to → from + i < length block
within block most from to i low chunk = omega (arith, low, chunk.lines.high)

order : (block : List ℕ) (most from to n : ℕ) → n ≤ to - from → IsChunk block most from to → (from + n ≤ to) × (to ≤ length block)
order block most from to n low chunk = (omega (arith, low, chunk.lines.low), chunk.lines.high)

room_for_all : (block : List ℕ) (first from to most len : ℕ) → first ≡ from → IsChunk block most from to → most ≡ len →
    newlines_between block first to ≤ len
room_for_all block first from to most len e chunk size = subst (λ f. newlines_between block f to ≤ len) (sym e) (omega (arith, chunk.few, size))

pub loop-i-init : goal.loop-i-init
loop-i-init c =
    let block = c.args.block.now in
    record {
      from-a = c.new-a.ensures.from;
      from-b = c.new-b.ensures.from;
      from-c = c.new-c.ensures.from;
      from-d = c.new-d.ensures.from;
      a = moved c.args.table block _ _ _ _ (omega arith) (c.new-a.ensures.lane block _);
      b = moved c.args.table block _ _ _ _ (omega arith) (c.new-b.ensures.lane block _);
      c = moved c.args.table block _ _ _ _ (omega arith) (c.new-c.ensures.lane block _);
      d = moved c.args.table block _ _ _ _ (omega arith) (c.new-d.ensures.lane block _);
    }

pub step-requires-clause-room : goal.step-requires-clause-room
step-requires-clause-room c = room c.args.block.now c.loop-i.a.from (get_or c.args.cuts 0 0) (get_or c.args.cuts 1 0) c.loop-i.i
    (length c.args.ends.now / 4) (length c.loop-i.p) c.loop-i.invariant.from-a (omega arith) (c.requires.chunks 0 (omega arith))
    (omega (arith, c.loop-i.auto.p, c.split_at_mut-p.ensures.front_len))

pub step-requires-in-loop-i-clause-room : goal.step-requires-in-loop-i-clause-room
step-requires-in-loop-i-clause-room c = room c.args.block.now c.loop-i.b.from (get_or c.args.cuts 1 0) (get_or c.args.cuts 2 0) c.loop-i.i
    (length c.args.ends.now / 4) (length c.loop-i.q) c.loop-i.invariant.from-b (omega arith) (c.requires.chunks 1 (omega arith))
    (omega (arith, c.loop-i.auto.q, c.split_at_mut-q.ensures.front_len))

pub step-requires-in-loop-i-2-clause-room : goal.step-requires-in-loop-i-2-clause-room
step-requires-in-loop-i-2-clause-room c = room c.args.block.now c.loop-i.c.from (get_or c.args.cuts 2 0) (get_or c.args.cuts 3 0) c.loop-i.i
    (length c.args.ends.now / 4) (length c.loop-i.r) c.loop-i.invariant.from-c (omega arith) (c.requires.chunks 2 (omega arith))
    (omega (arith, c.loop-i.auto.r, c.split_at_mut-r.ensures.front_len))

pub step-requires-in-loop-i-3-clause-room : goal.step-requires-in-loop-i-3-clause-room
step-requires-in-loop-i-3-clause-room c = room c.args.block.now c.loop-i.d.from (get_or c.args.cuts 3 0) (get_or c.args.cuts 4 0) c.loop-i.i
    (length c.args.ends.now / 4) (length c.loop-i.s) c.loop-i.invariant.from-d (omega arith) (c.requires.chunks 3 (omega arith))
    (omega (arith, c.loop-i.auto.s, c.split_at_mut-s.ensures.front_len))

pub loop-i-preserved : goal.loop-i-preserved
loop-i-preserved c =
    let i = c.loop-i.invariant in
    let block = c.args.block.now in
    record {
      from-a = c.step.ensures.from ∙ i.from-a;
      from-b = c.step-in-loop-i.ensures.from ∙ i.from-b;
      from-c = c.step-in-loop-i-2.ensures.from ∙ i.from-c;
      from-d = c.step-in-loop-i-3.ensures.from ∙ i.from-d;
      a = moved c.args.table block _ _ _ _ (omega arith) c.step.ensures.lane;
      b = moved c.args.table block _ _ _ _ (omega arith) c.step-in-loop-i.ensures.lane;
      c = moved c.args.table block _ _ _ _ (omega arith) c.step-in-loop-i-2.ensures.lane;
      d = moved c.args.table block _ _ _ _ (omega arith) c.step-in-loop-i-3.ensures.lane;
    }

pub scan-requires-clause-lane : goal.scan-requires-clause-lane
scan-requires-clause-lane c = moved c.args.table c.args.block.now _ _ _ _
    (omega (arith, c.loop-i-test.false, c.loop-i.auto.i-end)) c.loop-i.invariant.a

pub scan-requires-2-clause-lane : goal.scan-requires-2-clause-lane
scan-requires-2-clause-lane c = moved c.args.table c.args.block.now _ _ _ _
    (omega (arith, c.loop-i-test.false, c.loop-i.auto.i-end)) c.loop-i.invariant.b

pub scan-requires-3-clause-lane : goal.scan-requires-3-clause-lane
scan-requires-3-clause-lane c = moved c.args.table c.args.block.now _ _ _ _
    (omega (arith, c.loop-i-test.false, c.loop-i.auto.i-end)) c.loop-i.invariant.c

pub scan-requires-4-clause-lane : goal.scan-requires-4-clause-lane
scan-requires-4-clause-lane c = moved c.args.table c.args.block.now _ _ _ _
    (omega (arith, c.loop-i-test.false, c.loop-i.auto.i-end)) c.loop-i.invariant.d

pub returns-clause-lanes : goal.returns-clause-lanes
returns-clause-lanes c = λ k other.
    let i = c.loop-i.invariant in
    let t = c.args.table in
    let block = c.args.block.now in
    let cuts = c.args.cuts in
    let n = length c.args.ends.now / 4 in
    let p = c.scan.new.ends in
    let q = c.scan-2.new.ends in
    let r = c.scan-3.new.ends in
    let s = c.scan-4.new.ends in
    let rest = c.split_at_mut-s.result.1.now in
    let all : List ℕ = p ++ (q ++ (r ++ (s ++ rest))) in
    let lanes : List Lane = c.scan.new.self ∷ c.scan-2.new.self ∷ c.scan-3.new.self ∷ c.scan-4.new.self ∷ [] in
    let at-p : length p ≡ n = c.scan.auto.ends ∙ c.loop-i.auto.p ∙ c.split_at_mut-p.ensures.front_len in
    let at-q : length q ≡ n = c.scan-2.auto.ends ∙ c.loop-i.auto.q ∙ c.split_at_mut-q.ensures.front_len in
    let at-r : length r ≡ n = c.scan-3.auto.ends ∙ c.loop-i.auto.r ∙ c.split_at_mut-r.ensures.front_len in
    let at-s : length s ≡ n = c.scan-4.auto.ends ∙ c.loop-i.auto.s ∙ c.split_at_mut-s.ensures.front_len in
    let few : length rest < 4 = omega (
      arith,
      c.split_at_mut-p.ensures.back_len,
      c.split_at_mut-q.ensures.back_len,
      c.split_at_mut-r.ensures.back_len,
      c.split_at_mut-s.ensures.back_len,
    ) in
    four (λ k. IsLaneOf t block cuts all k (slice_index_or lanes k other))
    (record {
      from = c.scan.ensures.from ∙ i.from-a;
      lane = subst (IsLane t block (get_or cuts 1 0) c.scan.new.self) (sym (quarter-a n p q r s rest at-p at-q at-r at-s few)) c.scan.ensures.lane;
    })
    (record {
      from = c.scan-2.ensures.from ∙ i.from-b;
      lane = subst (IsLane t block (get_or cuts 2 0) c.scan-2.new.self) (sym (quarter-b n p q r s rest at-p at-q at-r at-s few)) c.scan-2.ensures.lane;
    })
    (record {
      from = c.scan-3.ensures.from ∙ i.from-c;
      lane = subst (IsLane t block (get_or cuts 3 0) c.scan-3.new.self) (sym (quarter-c n p q r s rest at-p at-q at-r at-s few)) c.scan-3.ensures.lane;
    })
    (record {
      from = c.scan-4.ensures.from ∙ i.from-d;
      lane = subst (IsLane t block (get_or cuts 4 0) c.scan-4.new.self) (sym (quarter-d n p q r s rest at-p at-q at-r at-s few)) c.scan-4.ensures.lane;
    })
    k

pub step-requires-clause-rows : goal.step-requires-clause-rows
step-requires-clause-rows c = c.requires.rows

pub step-requires-clause-within : goal.step-requires-clause-within
step-requires-clause-within c = within c.args.block.now _ _ (get_or c.args.cuts 1 0) c.loop-i.i (omega arith) (c.requires.chunks 0 (omega arith))

pub step-requires-clause-lane : goal.step-requires-clause-lane
step-requires-clause-lane c = c.loop-i.invariant.a

pub step-requires-in-loop-i-clause-rows : goal.step-requires-in-loop-i-clause-rows
step-requires-in-loop-i-clause-rows c = c.requires.rows

pub step-requires-in-loop-i-clause-within : goal.step-requires-in-loop-i-clause-within
step-requires-in-loop-i-clause-within c = within c.args.block.now _ _ (get_or c.args.cuts 2 0) c.loop-i.i (omega arith) (c.requires.chunks 1 (omega arith))

pub step-requires-in-loop-i-clause-lane : goal.step-requires-in-loop-i-clause-lane
step-requires-in-loop-i-clause-lane c = c.loop-i.invariant.b

pub step-requires-in-loop-i-2-clause-rows : goal.step-requires-in-loop-i-2-clause-rows
step-requires-in-loop-i-2-clause-rows c = c.requires.rows

pub step-requires-in-loop-i-2-clause-within : goal.step-requires-in-loop-i-2-clause-within
step-requires-in-loop-i-2-clause-within c = within c.args.block.now _ _ (get_or c.args.cuts 3 0) c.loop-i.i (omega arith) (c.requires.chunks 2 (omega arith))

pub step-requires-in-loop-i-2-clause-lane : goal.step-requires-in-loop-i-2-clause-lane
step-requires-in-loop-i-2-clause-lane c = c.loop-i.invariant.c

pub step-requires-in-loop-i-3-clause-rows : goal.step-requires-in-loop-i-3-clause-rows
step-requires-in-loop-i-3-clause-rows c = c.requires.rows

pub step-requires-in-loop-i-3-clause-within : goal.step-requires-in-loop-i-3-clause-within
step-requires-in-loop-i-3-clause-within c = within c.args.block.now _ _ (get_or c.args.cuts 4 0) c.loop-i.i (omega arith) (c.requires.chunks 3 (omega arith))

pub step-requires-in-loop-i-3-clause-lane : goal.step-requires-in-loop-i-3-clause-lane
step-requires-in-loop-i-3-clause-lane c = c.loop-i.invariant.d

pub scan-requires-clause-rows : goal.scan-requires-clause-rows
scan-requires-clause-rows c = c.requires.rows

pub scan-requires-clause-order : goal.scan-requires-clause-order
scan-requires-clause-order c = order c.args.block.now _ _ _ _ (omega arith) (c.requires.chunks 0 (omega arith))

pub scan-requires-clause-room : goal.scan-requires-clause-room
scan-requires-clause-room c = room_for_all c.args.block.now c.loop-i.a.from (get_or c.args.cuts 0 0) (get_or c.args.cuts 1 0)
    (length c.args.ends.now / 4) _ c.loop-i.invariant.from-a (c.requires.chunks 0 (omega arith))
    (omega (arith, c.loop-i.auto.p, c.split_at_mut-p.ensures.front_len))

pub scan-requires-2-clause-rows : goal.scan-requires-2-clause-rows
scan-requires-2-clause-rows c = c.requires.rows

pub scan-requires-2-clause-order : goal.scan-requires-2-clause-order
scan-requires-2-clause-order c = order c.args.block.now _ _ _ _ (omega arith) (c.requires.chunks 1 (omega arith))

pub scan-requires-2-clause-room : goal.scan-requires-2-clause-room
scan-requires-2-clause-room c = room_for_all c.args.block.now c.loop-i.b.from (get_or c.args.cuts 1 0) (get_or c.args.cuts 2 0)
    (length c.args.ends.now / 4) _ c.loop-i.invariant.from-b (c.requires.chunks 1 (omega arith))
    (omega (arith, c.loop-i.auto.q, c.split_at_mut-q.ensures.front_len))

pub scan-requires-3-clause-rows : goal.scan-requires-3-clause-rows
scan-requires-3-clause-rows c = c.requires.rows

pub scan-requires-3-clause-order : goal.scan-requires-3-clause-order
scan-requires-3-clause-order c = order c.args.block.now _ _ _ _ (omega arith) (c.requires.chunks 2 (omega arith))

pub scan-requires-3-clause-room : goal.scan-requires-3-clause-room
scan-requires-3-clause-room c = room_for_all c.args.block.now c.loop-i.c.from (get_or c.args.cuts 2 0) (get_or c.args.cuts 3 0)
    (length c.args.ends.now / 4) _ c.loop-i.invariant.from-c (c.requires.chunks 2 (omega arith))
    (omega (arith, c.loop-i.auto.r, c.split_at_mut-r.ensures.front_len))

pub scan-requires-4-clause-rows : goal.scan-requires-4-clause-rows
scan-requires-4-clause-rows c = c.requires.rows

pub scan-requires-4-clause-order : goal.scan-requires-4-clause-order
scan-requires-4-clause-order c = order c.args.block.now _ _ _ _ (omega arith) (c.requires.chunks 3 (omega arith))

pub scan-requires-4-clause-room : goal.scan-requires-4-clause-room
scan-requires-4-clause-room c = room_for_all c.args.block.now c.loop-i.d.from (get_or c.args.cuts 3 0) (get_or c.args.cuts 4 0)
    (length c.args.ends.now / 4) _ c.loop-i.invariant.from-d (c.requires.chunks 3 (omega arith))
    (omega (arith, c.loop-i.auto.s, c.split_at_mut-s.ensures.front_len))

pub split_at_mut-p-requires : goal.split_at_mut-p-requires
split_at_mut-p-requires c = omega (arith)

pub split_at_mut-q-requires : goal.split_at_mut-q-requires
split_at_mut-q-requires c = omega (arith, c.split_at_mut-p.ensures.back_len)

pub split_at_mut-r-requires : goal.split_at_mut-r-requires
split_at_mut-r-requires c = omega (arith, c.split_at_mut-p.ensures.back_len, c.split_at_mut-q.ensures.back_len)

pub split_at_mut-s-requires : goal.split_at_mut-s-requires
split_at_mut-s-requires c = omega (arith, c.split_at_mut-p.ensures.back_len, c.split_at_mut-q.ensures.back_len, c.split_at_mut-r.ensures.back_len)
