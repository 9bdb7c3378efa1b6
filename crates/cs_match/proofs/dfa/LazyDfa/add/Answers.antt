use Rattle.std.proofs.Common.{◌≡◌, ◌+◌, ◌*◌, ◌<◌, ◌≤◌, ◌++◌, ◌∷◌, [], ℕ, length, get_or, sym, ◌∙◌, ap, subst, arith}
use Rattle.std.specs.Prelude.{Result, Ok, is_ok, if◌then◌else◌}
use Rattle.cs_match.specs.CachedStates.{StateList}
use Rattle.cs_match.specs.ConsistentDfa.{Dfa, count_in}
use Rattle.cs_match.specs.Digits.{IsBlock}
use Rattle.cs_match.specs.Glushkov.{cuts_of}
use Rattle.cs_match.specs.LazyDfa.{AreStates, IsTable, StandsFor, IsSlot, state_at}
use Rattle.cs_match.proofs.PositionCountLemmas.{scaled}
use Rattle.cs_match.proofs.TransitionLemmas.{some_classes, kept_state, kept_slot, added_stands, added_table, added_states}
use Rattle.cs_match.proofs.dfa.LazyDfa.add.Goals as goal

pub unwrap-requires : goal.unwrap-requires
unwrap-requires c =
    let s = c.self.inside.states in
    let t = c.self.inside.program.now in
    let right = c.self.invariant in
    let room : length s.cached.items < s.cached.most =
    subst (λ (d : Dfa). length d.states.cached.items < d.states.cached.most) (sym c.self.view_is) c.requires.room in
    c.resize.ensures.succeeds (omega (
      arith,
      c.len.ensures,
      s.transitions.ok.0,
      right.table.rows,
      right.cached.fits,
      scaled (length s.cached.items + 1) s.cached.most s.classes.count (omega (arith, room)),
      right.capacity,
    ))

-- what was written, after a call that succeeds
ok_is : {A E : Type 0} (r : Result (Unit {0}) E) (x : Unit {0}) (new all none : A) → r ≡ Ok x → new ≡ (if is_ok r then all else none) → new ≡ all
ok_is r x new all none h is = is ∙ ap (λ q. if is_ok q then all else none) h

pub returns-clause-number : goal.returns-clause-number
returns-clause-number c =
    let s = c.self.inside.states in
    let t = c.self.inside.program.now in
    let right = c.self.invariant in
    let room : length s.cached.items < s.cached.most =
    subst (λ (d : Dfa). length d.states.cached.items < d.states.cached.most) (sym c.self.view_is) c.requires.room in
    let long : length c.resize.new.self.items ≡ length s.transitions.items + s.classes.count =
    omega (
      arith,
      ok_is _ c.unwrap.result _ _ s.transitions.len c.unwrap.ensures c.resize.ensures.len,
      c.len.ensures,
      s.transitions.ok.0,
      c.resize.new.self.ok.0,
    ) in
    let same : (k : ℕ) → k < length s.transitions.items → get_or c.resize.new.self.items k 0 ≡ get_or s.transitions.items k 0 =
    λ k lt. c.resize.ensures.by_index.0 k 0 (omega (arith, lt, c.len.ensures, s.transitions.ok.0)) (omega (arith, lt, s.transitions.ok.0)) in
    let blank : (k : ℕ) → length s.transitions.items ≤ k → k < length c.resize.new.self.items → get_or c.resize.new.self.items k 0 ≡ s.classes.count =
    λ k ge lt. c.resize.ensures.by_index.1 k 0 (c.resize.ensures.succeeds (omega (
      arith,
      c.len.ensures,
      s.transitions.ok.0,
      right.table.rows,
      right.cached.fits,
      scaled (length s.cached.items + 1) s.cached.most s.classes.count (omega (arith, room)),
      right.capacity,
    ))) (omega (arith, ge, s.transitions.ok.0))
    (omega (arith, lt, long, c.len.ensures, s.transitions.ok.0)) in
    rw (← c.self.view_is)
    (subst (λ (states : StateList). StandsFor t s.classes.count states.items (c.len-slot.result * s.classes.count) s.scratch) (sym c.push.ensures)
    (subst (λ n. StandsFor t s.classes.count (s.cached.items ++ s.scratch ∷ []) (n * s.classes.count) s.scratch) (sym c.len-slot.ensures)
    (added_stands t s.classes s.cached s.transitions.items right.classes right.cached right.table s.scratch
    c.resize.new.self.items long same blank)))

pub returns-clause-other : goal.returns-clause-other
returns-clause-other c = λ e.
    let s = c.self.inside.states in
    let right = c.self.invariant in
    omega (
      arith,
      e,
      c.len-slot.ensures,
      scaled 5 c.len-slot.result s.classes.count (omega (arith, c.len-slot.ensures, right.cached.first)),
      some_classes c.self.inside.program.now s.classes right.classes,
    )

pub returns-clause-count : goal.returns-clause-count
returns-clause-count c = ap count_in c.self.view_is

pub returns-clause-kept : goal.returns-clause-kept
returns-clause-kept c =
    let s = c.self.inside.states in
    let t = c.self.inside.program.now in
    let right = c.self.invariant in
    let room : length s.cached.items < s.cached.most =
    subst (λ (d : Dfa). length d.states.cached.items < d.states.cached.most) (sym c.self.view_is) c.requires.room in
    let long : length c.resize.new.self.items ≡ length s.transitions.items + s.classes.count =
    omega (
      arith,
      ok_is _ c.unwrap.result _ _ s.transitions.len c.unwrap.ensures c.resize.ensures.len,
      c.len.ensures,
      s.transitions.ok.0,
      c.resize.new.self.ok.0,
    ) in
    let same : (k : ℕ) → k < length s.transitions.items → get_or c.resize.new.self.items k 0 ≡ get_or s.transitions.items k 0 =
    λ k lt. c.resize.ensures.by_index.0 k 0 (omega (arith, lt, c.len.ensures, s.transitions.ok.0)) (omega (arith, lt, s.transitions.ok.0)) in
    let blank : (k : ℕ) → length s.transitions.items ≤ k → k < length c.resize.new.self.items → get_or c.resize.new.self.items k 0 ≡ s.classes.count =
    λ k ge lt. c.resize.ensures.by_index.1 k 0 (c.resize.ensures.succeeds (omega (
      arith,
      c.len.ensures,
      s.transitions.ok.0,
      right.table.rows,
      right.cached.fits,
      scaled (length s.cached.items + 1) s.cached.most s.classes.count (omega (arith, room)),
      right.capacity,
    ))) (omega (arith, ge, s.transitions.ok.0))
    (omega (arith, lt, long, c.len.ensures, s.transitions.ok.0)) in
    rw (← c.self.view_is) (λ slot at.
    subst (λ (states : StateList). IsSlot states.items slot × (state_at t states.items slot ≡ state_at t s.cached.items slot)) (sym c.push.ensures) (
      kept_slot t s.classes s.cached s.transitions.items right.classes right.cached right.table s.scratch
          c.resize.new.self.items long same blank slot at,
      kept_state t s.classes s.cached s.transitions.items right.classes right.cached right.table s.scratch
          c.resize.new.self.items long same blank slot at.within,
    ))

pub invariant_of-self : goal.invariant_of-self
invariant_of-self c =
    let s = c.self.inside.states in
    let t = c.self.inside.program.now in
    let right = c.self.invariant in
    let room : length s.cached.items < s.cached.most =
    subst (λ (d : Dfa). length d.states.cached.items < d.states.cached.most) (sym c.self.view_is) c.requires.room in
    let long : length c.resize.new.self.items ≡ length s.transitions.items + s.classes.count =
    omega (
      arith,
      ok_is _ c.unwrap.result _ _ s.transitions.len c.unwrap.ensures c.resize.ensures.len,
      c.len.ensures,
      s.transitions.ok.0,
      c.resize.new.self.ok.0,
    ) in
    let same : (k : ℕ) → k < length s.transitions.items → get_or c.resize.new.self.items k 0 ≡ get_or s.transitions.items k 0 =
    λ k lt. c.resize.ensures.by_index.0 k 0 (omega (arith, lt, c.len.ensures, s.transitions.ok.0)) (omega (arith, lt, s.transitions.ok.0)) in
    let blank : (k : ℕ) → length s.transitions.items ≤ k → k < length c.resize.new.self.items → get_or c.resize.new.self.items k 0 ≡ s.classes.count =
    λ k ge lt. c.resize.ensures.by_index.1 k 0 (c.resize.ensures.succeeds (omega (
      arith,
      c.len.ensures,
      s.transitions.ok.0,
      right.table.rows,
      right.cached.fits,
      scaled (length s.cached.items + 1) s.cached.most s.classes.count (omega (arith, room)),
      right.capacity,
    ))) (omega (arith, ge, s.transitions.ok.0))
    (omega (arith, lt, long, c.len.ensures, s.transitions.ok.0)) in
    record {
      expanded = right.expanded;
      classes = right.classes;
      cached = subst (AreStates t s.classes.count) (sym c.push.ensures)
          (added_states t s.classes s.cached s.transitions.items right.classes right.cached right.table s.scratch
          c.resize.new.self.items long same blank room right.room
          (subst (λ (d : Dfa). IsBlock (cuts_of d.tree) d.states.scratch.behind.unfinished) (sym c.self.view_is) c.requires.block));
      table = subst (λ (states : StateList). IsTable t s.classes states.items c.resize.new.self.items) (sym c.push.ensures)
          (added_table t s.classes s.cached s.transitions.items right.classes right.cached right.table s.scratch
          c.resize.new.self.items long same blank);
      capacity = omega (arith, right.capacity, c.resize.ensures.capacity);
      room = right.room;
      memory = right.memory;
    }
