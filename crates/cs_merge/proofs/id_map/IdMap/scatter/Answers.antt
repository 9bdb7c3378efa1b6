use Rattle.std.proofs.Common.{rules, ◌≡◌, ℕ, ◌<◌, List, length, get_or, refl, sym, ap, ◌∙◌, Some, slice_get, arith, slice_index}
use Rattle.cs_merge.proofs.Common.{slice_get_read, NewIds, AreDistinctIds}
use Rattle.cs_merge.proofs.SortedNamesLemmas.{has_at, scattered_more}
use Rattle.cs_merge.proofs.id_map.IdMap.scatter.Goals as goal

id_below : (ids : List ℕ) (position : ℕ) → AreDistinctIds (length ids) ids → position < length ids → slice_index ids position < length ids
id_below ids position are within = are.below (slice_index ids position) (has_at ids position within)

pub index_mut-requires : goal.index_mut-requires
index_mut-requires c =
    let below = id_below c.args.ids.now c.loop-position.position c.requires.order c.loop-position-test.true in
    omega (arith, below, c.loop-position.invariant.long, c.requires.all, c.loop-position.new_ids.ok.0)

pub loop-position-preserved : goal.loop-position-preserved
loop-position-preserved c =
    let below = id_below c.args.ids.now c.loop-position.position c.requires.order c.loop-position-test.true in
    let value : c.index.result.now ≡ get_or c.self.inside.new_ids.items c.loop-position.position c.index.result.now = search rules in
    let long : length c.self.inside.new_ids.items ≡ length c.args.ids.now = ap length c.self.view_is ∙ c.requires.all in
    let within : c.loop-position.position < length c.args.ids.now = c.loop-position-test.true in
    let is : slice_get c.args.self.now c.loop-position.position ≡ Some c.index.result.now =
    ap (λ (ranks : NewIds). slice_get ranks c.loop-position.position) (sym c.self.view_is)
    ∙ slice_get_read c.self.inside.new_ids.items (length c.self.inside.new_ids.items) c.loop-position.position
    c.index.result.now refl (omega (arith, within, long)) value in
    let put = scattered_more c.args.ids.now c.args.self.now c.loop-position.new_ids.items c.loop-position.position
    c.index.result.now c.requires.order.once c.loop-position-test.true
    (omega (arith, below, c.loop-position.invariant.long, c.requires.all)) is c.loop-position.invariant.put in
    search (rules, put)
