use Rattle.std.proofs.Common.{◌≡◌, ◌+◌, ◌<◌, ◌++◌, ◌∷◌, [], Bool, List, length, sym, ◌∙◌, ap, subst, arith}
use Rattle.std.specs.Prelude.{Result, Ok, is_ok, if◌then◌else◌}
use Rattle.cs_match.specs.declared.state.State.{State}
use Rattle.cs_match.specs.CachedStates.{StateList, states_of}
use Rattle.cs_match.specs.PositionSet.{positions_of, IsPositionSet}
use Rattle.cs_match.specs.Work.{words}
use Rattle.cs_match.proofs.CachedStateLemmas.{length-states_of, length-sets, with_positions, pushed_states, pushed_sets}
use Rattle.cs_match.proofs.PositionCountLemmas.{scaled}
use Rattle.cs_match.proofs.cached_states.CachedStates.push.Goals as goal

pub unwrap-requires : goal.unwrap-requires
unwrap-requires c =
    let m = c.self.inside in
    c.push.ensures.succeeds (omega (
      arith,
      c.requires.room,
      ap (λ (s : StateList). length s.items) c.self.view_is,
      ap (λ (s : StateList). s.most) c.self.view_is,
      length-states_of m.count m.sets.items m.behinds.items,
      m.behinds.ok.0,
      c.self.invariant.1,
      c.self.invariant.6,
    ))

-- the set of the state
set_of : (c : goal.After-extend_from_slice) → IsPositionSet c.words.result.now c.self.inside.count
set_of c =
    subst (λ n. IsPositionSet c.words.result.now n) (c.requires.positions ∙ sym (ap (λ (s : StateList). s.positions) c.self.view_is)) c.words.ensures.set

pub unwrap-requires-2 : goal.unwrap-requires-2
unwrap-requires-2 c =
    let m = c.self.inside in
    let low : length m.behinds.items < m.most =
    omega (
      arith,
      c.requires.room,
      ap (λ (s : StateList). length s.items) c.self.view_is,
      ap (λ (s : StateList). s.most) c.self.view_is,
      length-states_of m.count m.sets.items m.behinds.items,
    ) in
    c.extend_from_slice.ensures.succeeds (omega (
      arith,
      length-sets m.count m.sets.items m.behinds.items c.self.invariant.0,
      (set_of c).enough,
      scaled (length m.behinds.items + 1) m.most (words m.count) (omega (arith, low)),
      m.sets.ok.0,
      c.self.invariant.7,
    ))

pub unwrap-requires-3 : goal.unwrap-requires-3
unwrap-requires-3 c =
    let m = c.self.inside in
    c.push-2.ensures.succeeds (omega (
      arith,
      c.requires.room,
      ap (λ (s : StateList). length s.items) c.self.view_is,
      ap (λ (s : StateList). s.most) c.self.view_is,
      length-states_of m.count m.sets.items m.behinds.items,
      m.behinds.ok.0,
      c.self.invariant.5,
    ))

-- what was written, after a call that succeeds
ok_is : {A E : Type 0} (r : Result (Unit {0}) E) (x : Unit {0}) (new all none : A) → r ≡ Ok x → new ≡ (if is_ok r then all else none) → new ≡ all
ok_is r x new all none h is = is ∙ ap (λ q. if is_ok q then all else none) h

module _ (c : goal.After-unwrap-3) where
  sets_are : c.extend_from_slice.new.self.items ≡ c.self.inside.sets.items ++ c.words.result.now
  sets_are = ok_is _ c.unwrap-2.result _ _ c.self.inside.sets.items c.unwrap-2.ensures c.extend_from_slice.ensures.items

  behinds_are : c.push-2.new.self.items ≡ c.self.inside.behinds.items ++ c.args.state.now.behind ∷ []
  behinds_are = ok_is _ c.unwrap-3.result _ _ c.self.inside.behinds.items c.unwrap-3.ensures c.push-2.ensures.items

  is_set : IsPositionSet c.words.result.now c.self.inside.count
  is_set =
      subst (λ n. IsPositionSet c.words.result.now n) (c.requires.positions ∙ sym (ap (λ (s : StateList). s.positions) c.self.view_is)) c.words.ensures.set

  same_positions : positions_of c.words.result.now c.self.inside.count ≡ c.args.state.now.positions
  same_positions =
      ap (positions_of c.words.result.now) (sym (c.requires.positions ∙ sym (ap (λ (s : StateList). s.positions) c.self.view_is)))
      ∙ c.words.ensures.same

pub invariant_of-self : goal.invariant_of-self
invariant_of-self c =
    let m = c.self.inside in
    let given = c.self.invariant in (
      rw (sets_are c, behinds_are c) (pushed_sets m.count c.words.result.now c.args.state.now.behind (is_set c) m.sets.items m.behinds.items given.0),
      omega (
        arith,
        given.1,
        ok_is _ c.unwrap.result _ _ m.places.len c.unwrap.ensures c.push.ensures.len,
        ok_is _ c.unwrap-3.result _ _ m.behinds.len c.unwrap-3.ensures c.push-2.ensures.len,
      ),
      given.2,
      given.3,
      given.4,
      omega (arith, c.push-2.ensures.capacity, given.5),
      omega (arith, c.push.ensures.capacity, given.6),
      omega (arith, c.extend_from_slice.ensures.capacity, given.7),
    )

pub returns : goal.returns
returns c =
    let m = c.self.inside in
    let more : states_of m.count c.extend_from_slice.new.self.items c.push-2.new.self.items
    ≡ states_of m.count m.sets.items m.behinds.items ++ c.args.state.now ∷ [] =
    rw (sets_are c, behinds_are c)
    (pushed_states m.count c.words.result.now c.args.state.now.behind (is_set c) m.sets.items m.behinds.items c.self.invariant.0
    ∙ ap (λ (ps : List Bool). states_of m.count m.sets.items m.behinds.items ++ with_positions ps c.args.state.now.behind ∷ []) (same_positions c)) in
    ap (λ (xs : List State). record { items = xs; most = m.most; positions = m.count }) more
    ∙ ap (λ (s : StateList). record { items = s.items ++ c.args.state.now ∷ []; most = s.most; positions = s.positions }) c.self.view_is
