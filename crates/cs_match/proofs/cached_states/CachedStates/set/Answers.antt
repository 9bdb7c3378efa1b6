use Rattle.std.proofs.Common.{◌≡◌, ◌+◌, ◌-◌, ◌*◌, ◌<◌, ◌≤◌, List, ℕ, length, take, drop, get_or, sym, ◌∙◌, ap, subst, arith}
use Rattle.cs_match.specs.declared.state.State.{State}
use Rattle.cs_match.specs.CachedStates.{StateList}
use Rattle.cs_match.specs.PositionSet.{positions_of, IsPositionSet}
use Rattle.cs_match.specs.Work.{words}
use Rattle.cs_match.proofs.CachedStateLemmas.{length-states_of, set_within, state_is, set_is, set_at}
use Rattle.cs_match.proofs.cached_states.CachedStates.set.Goals as goal

module _ (c : goal.After-div_ceil-words) where
  w_is : c.div_ceil-words.result ≡ words c.self.inside.count
  w_is = omega (arith, c.div_ceil-words.ensures)

  low : c.args.slot < length c.self.inside.behinds.items
  low =
      omega (
        arith,
        c.requires,
        length-states_of c.self.inside.count c.self.inside.sets.items c.self.inside.behinds.items,
        ap (λ (s : StateList). length s.items) c.self.view_is,
      )

  -- the words of a set are within those of all
  sized : c.args.slot * c.div_ceil-words.result + c.div_ceil-words.result ≤ length c.self.inside.sets.items
  sized = set_within c.self.inside.count c.args.slot c.div_ceil-words.result c.self.inside.sets.items c.self.inside.behinds.items c.self.invariant.0 w_is low

pub overflow_mul-start : goal.overflow_mul-start
overflow_mul-start c = omega (arith, sized c, c.self.inside.sets.ok)

pub overflow_add-result : goal.overflow_add-result
overflow_add-result c =
    let m = c.self.inside in
    let w_is : c.div_ceil-words.result ≡ words m.count = omega (arith, c.div_ceil-words.ensures) in
    let low : c.args.slot < length m.behinds.items =
    omega (arith, c.requires, length-states_of m.count m.sets.items m.behinds.items, ap (λ (s : StateList). length s.items) c.self.view_is) in
    omega (arith, set_within m.count c.args.slot c.div_ceil-words.result m.sets.items m.behinds.items c.self.invariant.0 w_is low, m.sets.ok)

pub offset_bounds-deref-start : goal.offset_bounds-deref-start
offset_bounds-deref-start c =
    let m = c.self.inside in
    let w_is : c.div_ceil-words.result ≡ words m.count = omega (arith, c.div_ceil-words.ensures) in
    let low : c.args.slot < length m.behinds.items =
    omega (arith, c.requires, length-states_of m.count m.sets.items m.behinds.items, ap (λ (s : StateList). length s.items) c.self.view_is) in
    omega (
      arith,
      set_within m.count c.args.slot c.div_ceil-words.result m.sets.items m.behinds.items c.self.invariant.0 w_is low,
      ap length c.deref.ensures.value,
      c.deref.type_inv,
    )

pub slice_bounds-result-end : goal.slice_bounds-result-end
slice_bounds-result-end c =
    let m = c.self.inside in
    let w_is : c.div_ceil-words.result ≡ words m.count = omega (arith, c.div_ceil-words.ensures) in
    let low : c.args.slot < length m.behinds.items =
    omega (arith, c.requires, length-states_of m.count m.sets.items m.behinds.items, ap (λ (s : StateList). length s.items) c.self.view_is) in
    omega (
      arith,
      set_within m.count c.args.slot c.div_ceil-words.result m.sets.items m.behinds.items c.self.invariant.0 w_is low,
      ap length c.deref.ensures.value,
    )

-- they are those of the slot
part : (count slot w : ℕ) (sets read : List ℕ) → w ≡ words count → read ≡ sets →
    take (slot * w + w - slot * w) (drop (slot * w) read) ≡ set_at count sets slot
part count slot w sets read is same =
    let some : slot * w + w - slot * w ≡ words count = omega (arith, is) in
    ap (λ k. take k (drop (slot * w) read)) some
    ∙ ap (λ k. take (words count) (drop k read)) (ap (λ k. slot * k) is)
    ∙ ap (λ xs. set_at count xs slot) same

pub returns-clause-set : goal.returns-clause-set
returns-clause-set c =
    let m = c.self.inside in
    let w_is : c.div_ceil-words.result ≡ words m.count = omega (arith, c.div_ceil-words.ensures) in
    let low : c.args.slot < length m.behinds.items =
    omega (arith, c.requires, length-states_of m.count m.sets.items m.behinds.items, ap (λ (s : StateList). length s.items) c.self.view_is) in
    let is = part m.count c.args.slot c.div_ceil-words.result m.sets.items c.deref.result.now w_is c.deref.ensures.value in
    let w = c.div_ceil-words.result in
    let read : List ℕ = take (c.args.slot * w + w - c.args.slot * w) (drop (c.args.slot * w) c.deref.result.now) in
    subst (λ (n : ℕ). IsPositionSet read n) (ap (λ (s : StateList). s.positions) c.self.view_is)
    (subst (λ (ws : List ℕ). IsPositionSet ws m.count) (sym is) (set_is m.count c.args.slot m.sets.items m.behinds.items c.self.invariant.0 low))

pub returns-clause-same : goal.returns-clause-same
returns-clause-same c = λ other.
    let m = c.self.inside in
    let w_is : c.div_ceil-words.result ≡ words m.count = omega (arith, c.div_ceil-words.ensures) in
    let low : c.args.slot < length m.behinds.items =
    omega (arith, c.requires, length-states_of m.count m.sets.items m.behinds.items, ap (λ (s : StateList). length s.items) c.self.view_is) in
    let is = part m.count c.args.slot c.div_ceil-words.result m.sets.items c.deref.result.now w_is c.deref.ensures.value in
    let w = c.div_ceil-words.result in
    let read : List ℕ = take (c.args.slot * w + w - c.args.slot * w) (drop (c.args.slot * w) c.deref.result.now) in
    ap (λ (s : StateList). (get_or s.items c.args.slot other).positions) (sym c.self.view_is)
    ∙ ap (λ (s : State). s.positions) (state_is m.count c.args.slot m.sets.items m.behinds.items other other.behind low)
    ∙ ap (λ (ws : List ℕ). positions_of ws m.count) (sym is)
    ∙ ap (positions_of read) (ap (λ (s : StateList). s.positions) c.self.view_is)
