use Rattle.std.proofs.Common.{◌≡◌, ◌≢◌, ◌+◌, ◌-◌, ◌*◌, ◌/◌, ◌≤◌, ◌++◌, length, take, drop, get_or, refl, sym, ap, subst, ◌∙◌, arith}
use Rattle.std.specs.Prelude.{slice_index_or}
use Rattle.cs_match.specs.declared.listing.Lister.{Lister}
use Rattle.cs_match.specs.declared.lanes.Lane.{Lane}
use Rattle.cs_match.specs.Deciding.{Decides}
use Rattle.cs_match.specs.Work.{byte_work}
use Rattle.cs_match.specs.Table.{unknown, TellsLines}
use Rattle.cs_match.specs.MatchingEnds.{newlines_between}
use Rattle.cs_match.specs.Lanes.{AreListed, quarter}
use Rattle.cs_match.proofs.ChunkLemmas.{newlines_within, chunk_within, moved_ends, moved_rest, pending-quarter, pending-more, quarter_within, length-quarter, room_between, work-more, moved-work, pending-far, own-len, filled-len, filled, filled-rest, AreListed-none, AreListed-lane, AreListed-append, AreListed-kind, lists_all}
use Rattle.cs_match.proofs.listing.Lister.list_chunks.Goals as goal
use Rattle.cs_match.proofs.listing.Lister.list_chunks.Goals.{then-lane-unknown, else-lane-unknown}

abbrev other : Lane
other = record { from = 0; number = 0; count = 0 }

pub loop-k-init : goal.loop-k-init
loop-k-init c = record {
  listed = subst (λ at. AreListed (λ has_match. Decides has_match c.args.self.now.dfa.tree) c.args.block.now c.args.from at 0 c.four_lanes-lanes.new.ends)
      (sym c.four_chunks-cuts.ensures.cuts.first)
      (AreListed-none (λ has_match. Decides has_match c.args.self.now.dfa.tree) c.args.block.now c.args.from c.four_lanes-lanes.new.ends c.requires.within);
  room = omega arith;
  pending = refl;
  same = refl;
  rises = omega arith;
  work = omega arith;
}

pub list_ends-listed-requires-clause-lines : goal.list_ends-listed-requires-clause-lines
list_ends-listed-requires-clause-lines c = (c.four_chunks-cuts.ensures.chunks c.loop-k.k c.loop-k-test.true).lines

pub list_ends-listed-requires-clause-room : goal.list_ends-listed-requires-clause-room
list_ends-listed-requires-clause-room c =
    let k = c.loop-k.k in
    let n = length c.args.ends.now / 4 in
    let next : k * n + n ≡ (k + 1) * n = omega arith in
    omega (
      arith,
      room_between c.loop-k.ends c.loop-k.count ((k + 1) * n) n (omega (arith, c.loop-k.invariant.room, next))
          (omega (arith, next, quarter_within n (length c.args.ends.now) refl k c.loop-k-test.true, c.loop-k.auto.ends, c.four_lanes-lanes.ensures.len)),
    )

pub copy_within-requires : goal.copy_within-requires
copy_within-requires c =
    let k = c.loop-k.k in
    let n = length c.args.ends.now / 4 in
    let cuts = c.four_chunks-cuts.result in
    let is = c.four_lanes-lanes.ensures.lanes k other c.loop-k-test.true in
    omega (
      arith,
      is.lane.few,
      (c.four_chunks-cuts.ensures.chunks k c.loop-k-test.true).few,
      ap (λ f. newlines_between c.args.block.now f (get_or cuts (k + 1) 0)) is.from,
      quarter_within n (length c.args.ends.now) refl k c.loop-k-test.true,
      c.loop-k.auto.ends,
      c.four_lanes-lanes.ensures.len,
    )

pub overflow_add-count-else-lane-unknown : goal.overflow_add-count-else-lane-unknown
overflow_add-count-else-lane-unknown c =
    let i = c.loop-k.invariant in
    let k = c.loop-k.k in
    let n = length c.args.ends.now / 4 in
    let cuts = c.four_chunks-cuts.result in
    let is = c.four_lanes-lanes.ensures.lanes k other c.loop-k-test.true in
    omega (
      arith,
      i.room,
      is.lane.few,
      (c.four_chunks-cuts.ensures.chunks k c.loop-k-test.true).few,
      ap (λ f. newlines_between c.args.block.now f (get_or cuts (k + 1) 0)) is.from,
      quarter_within n (length c.args.ends.now) refl k c.loop-k-test.true,
    )

pub loop-k-preserved : goal.loop-k-preserved
loop-k-preserved c =
    let i = c.loop-k.invariant in
    let block = c.args.block.now in
    let k = c.loop-k.k in
    let n = length c.args.ends.now / 4 in
    let cuts = c.four_chunks-cuts.result in
    let x = get_or cuts k 0 in
    let y = get_or cuts (k + 1) 0 in
    let t = c.args.self.now.dfa.tree in
    let first = c.four_lanes-lanes.new.ends in
    let stop = (k + 1) * n in
    let count = c.loop-k.count in
    let old = c.loop-k.ends in
    let chunk = chunk_within block _ n x y (omega arith) (c.four_chunks-cuts.ensures.chunks k c.loop-k-test.true) in
    let next : k * n + n ≡ stop = omega arith in
    let high : stop ≤ length old = omega (
      arith,
      next,
      quarter_within n (length c.args.ends.now) refl k c.loop-k-test.true,
      c.loop-k.auto.ends,
      c.four_lanes-lanes.ensures.len,
    ) in
    elim c.if-lane-unknown.branch [
      | then-lane-unknown w ↦
          let e = w.list_ends-listed.ensures in
          let own = w.list_ends-listed.new.ends in
          let more = w.list_ends-listed.result.count in
          let to = w.list_ends-listed.result.to in
          let low : count ≤ stop = omega (arith, i.room, next) in
          let size = w.list_ends-listed.auto.ends in
          let is : c.if-lane-unknown.ends ≡ take count old ++ (own ++ drop (stop - count) (drop count old)) = w.ends-is in
          let listed_to : AreListed (λ has_match. Decides has_match t) block x to more own =
          subst (λ tree. AreListed (λ has_match. Decides has_match tree) block x to more own) i.same e.listed in
          let all : length c.if-lane-unknown.ends ≡ length old = filled-len old own c.if-lane-unknown.ends count stop low high size is in
          let len : length own ≡ stop - count = own-len old own c.if-lane-unknown.ends count stop low high size is in
          let full : to ≡ y = lists_all (λ has_match. Decides has_match t) block x to y more own chunk.lines
          (omega (arith, chunk.few, len, i.room, next)) listed_to e.most (λ other. e.all other ∙ sym size) in
          let listed : AreListed (λ has_match. Decides has_match t) block x y more own =
          subst (λ k. AreListed (λ has_match. Decides has_match t) block x k more own) full listed_to in
          let work : w.list_ends-listed.new.steps.count ≤ c.loop-k.self.steps.count + byte_work t * (y - x) =
          subst (λ tree. w.list_ends-listed.new.steps.count ≤ c.loop-k.self.steps.count + byte_work tree * (y - x)) i.same
          (subst (λ k. w.list_ends-listed.new.steps.count ≤ c.loop-k.self.steps.count + byte_work c.loop-k.self.dfa.tree * (k - x)) full e.work.1.1) in
          let steps = ap (λ (s : Lister). s.steps.count) w.self-is in
          record {
            listed = subst (λ m. AreListed (λ has_match. Decides has_match t) block c.args.from y m c.if-lane-unknown.ends) (sym w.count-is)
                (AreListed-append (λ has_match. Decides has_match t) block c.args.from x y count more old own c.if-lane-unknown.ends i.listed listed
                (omega (arith, listed.room, len, all, high, low))
                (filled old own c.if-lane-unknown.ends count stop low high size is more listed.room));
            room = omega (arith, w.count-is, listed.room, len, low);
            pending = filled-rest old own c.if-lane-unknown.ends count stop low high size is ∙ pending-far old first (k * n) n stop next i.pending;
            same = ap (λ (s : Lister). s.dfa.tree) w.self-is ∙ e.work.0 ∙ i.same;
            rises = omega (arith, steps, e.work.1.0, i.rises);
            work = work-more (byte_work t) c.args.from x y c.add.new.self.count c.loop-k.self.steps.count c.if-lane-unknown.self.steps.count
                i.listed.lines.low chunk.lines.low i.work (omega (arith, steps, work));
          }
      | else-lane-unknown w ↦
          let is = c.four_lanes-lanes.ensures.lanes k other c.loop-k-test.true in
          let lane : Lane = slice_index_or c.four_lanes-lanes.result k other in
          let part : length first / 4 ≡ n = ap (λ len. len / 4) c.four_lanes-lanes.ensures.len in
          let seen : lane.count ≤ newlines_between block x y = omega (arith, is.lane.few, ap (λ f. newlines_between block f y) is.from) in
          let few : lane.count ≤ n = omega (arith, seen, chunk.few) in
          let size : k * n + lane.count - k * n ≡ lane.count = omega arith in
          let known : lane.number ≢ unknown c.table-table.result = w.if-lane-unknown.false in
          let own : AreListed (λ has_match. Decides has_match t) block x y lane.count (quarter k first) =
          AreListed-kind (λ has_match. TellsLines has_match c.table-table.result) (λ has_match. Decides has_match t) c.table-table.ensures.tells
          block x y lane.count (quarter k first) (AreListed-lane c.table-table.result block x y n lane (quarter k first) is.lane is.from chunk
          (omega (arith, length-quarter first k c.loop-k-test.true, part)) known) in
          let steps = ap (λ (s : Lister). s.steps.count) w.self-is in
          let new = w.copy_within.new.self in
          let order : count ≤ k * n = i.room in
          let within : k * n + lane.count ≤ length old = omega (arith, few, next, high) in
          let is_moved = w.copy_within.ensures.after in
          let size_moved = w.copy_within.ensures.len in
          record {
            listed = subst (λ m. AreListed (λ has_match. Decides has_match t) block c.args.from y m c.if-lane-unknown.ends) (sym w.count-is)
                (subst (λ ends. AreListed (λ has_match. Decides has_match t) block c.args.from y (count + lane.count) ends) (sym w.ends-is)
                (AreListed-append (λ has_match. Decides has_match t) block c.args.from x y count lane.count old (quarter k first) new
                i.listed own (omega (arith, i.room, few, next, high, size_moved))
                (moved_ends old new count (k * n) lane.count order within is_moved
                ∙ ap (λ xs. take count old ++ xs) (pending-quarter old first k n part lane.count few i.pending))));
            room = omega (arith, w.count-is, i.room, few, next);
            pending = ap (drop stop) w.ends-is
                ∙ pending-more new old first (k * n) lane.count n stop few next (moved_rest old new count (k * n) lane.count order within is_moved) i.pending;
            same = ap (λ (s : Lister). s.dfa.tree) w.self-is ∙ i.same;
            rises = omega (arith, steps, w.add-else-lane-unknown.ensures, i.rises);
            work = work-more (byte_work t) c.args.from x y c.add.new.self.count c.loop-k.self.steps.count c.if-lane-unknown.self.steps.count
                i.listed.lines.low chunk.lines.low i.work
                (moved-work (byte_work t) (y - x) lane.count c.loop-k.self.steps.count c.if-lane-unknown.self.steps.count (omega arith)
                (steps ∙ w.add-else-lane-unknown.ensures) (omega (arith, seen, newlines_within block x y)));
          }
    ]
