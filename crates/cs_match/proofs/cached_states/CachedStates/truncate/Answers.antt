use Rattle.std.proofs.Common.{◌≡◌, ◌*◌, ◌≤◌, List, take, length, ◌∙◌, ap, arith}
use Rattle.cs_match.specs.CachedStates.{StateList, states_of}
use Rattle.cs_match.specs.Work.{words}
use Rattle.cs_match.proofs.CachedStateLemmas.{length-states_of, length-sets, first_states, first_sets}
use Rattle.cs_match.proofs.PositionCountLemmas.{scaled}
use Rattle.cs_match.proofs.cached_states.CachedStates.truncate.Goals as goal

pub overflow_mul-len : goal.overflow_mul-len
overflow_mul-len c =
    let m = c.self.inside in
    let w_is : c.div_ceil-words.result ≡ words m.count = omega (arith, c.div_ceil-words.ensures) in
    let low : c.args.len ≤ length m.behinds.items =
    omega (arith, c.requires, length-states_of m.count m.sets.items m.behinds.items, ap (λ (s : StateList). length s.items) c.self.view_is) in
    omega (
      arith,
      length-sets m.count m.sets.items m.behinds.items c.self.invariant.0,
      scaled c.args.len (length m.behinds.items) (words m.count) low,
      ap (λ k. c.args.len * k) w_is,
      m.sets.ok,
      c.self.ranges,
    )

sets_is : (c : goal.After-truncate-3) → c.truncate.new.self.items ≡ take (c.args.len * words c.self.inside.count) c.self.inside.sets.items
sets_is c =
    let w_is : c.div_ceil-words.result ≡ words c.self.inside.count = omega (arith, c.div_ceil-words.ensures) in
    c.truncate.ensures.items ∙ ap (λ k. take (c.args.len * k) c.self.inside.sets.items) w_is

pub invariant_of-self : goal.invariant_of-self
invariant_of-self c =
    let m = c.self.inside in
    let given = c.self.invariant in (
      rw (sets_is c, c.truncate-2.ensures.items) (first_sets m.count c.args.len m.sets.items m.behinds.items given.0),
      omega (arith, c.truncate-2.ensures.len, c.truncate-3.ensures.len, given.1),
      given.2,
      given.3,
      given.4,
      omega (arith, c.truncate-2.ensures.capacity, given.5),
      omega (arith, c.truncate-3.ensures.capacity, given.6),
      omega (arith, c.truncate.ensures.capacity, given.7),
    )

pub returns : goal.returns
returns c =
    let m = c.self.inside in
    let first : states_of m.count c.truncate.new.self.items c.truncate-2.new.self.items ≡ take c.args.len (states_of m.count m.sets.items m.behinds.items) =
    rw (sets_is c, c.truncate-2.ensures.items) (first_states m.count c.args.len m.sets.items m.behinds.items c.self.invariant.0) in
    ap (λ (xs : List _). record { items = xs; most = m.most; positions = m.count }) first
    ∙ ap (λ (s : StateList). record { items = take c.args.len s.items; most = s.most; positions = s.positions }) c.self.view_is
