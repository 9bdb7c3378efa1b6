use Rattle.std.proofs.Common.{length, take, sym, ap, subst, arith}
use Rattle.std.proofs.lemmas.List.{length-take-le}
use Rattle.cs_match.specs.CachedStates.{StateList}
use Rattle.cs_match.specs.ConsistentDfa.{Dfa}
use Rattle.cs_match.specs.LazyDfa.{AreStates, IsTable}
use Rattle.cs_match.proofs.TransitionLemmas.{emptied_states, first_table}
use Rattle.cs_match.proofs.dfa.LazyDfa.empty.Goals as goal

pub returns-clause-room : goal.returns-clause-room
returns-clause-room c =
    let cached = c.self.invariant.cached in
    omega (
      arith,
      ap (λ (states : StateList). length states.items) c.truncate.ensures,
      ap (λ (states : StateList). states.most) c.truncate.ensures,
      length-take-le 5 c.self.inside.states.cached.items cached.first,
      cached.more,
    )

pub returns-clause-scratch : goal.returns-clause-scratch
returns-clause-scratch c = ap (λ (d : Dfa). d.states.scratch) c.self.view_is

pub invariant_of-self : goal.invariant_of-self
invariant_of-self c =
    let t = c.self.inside.program.now in
    let s = c.self.inside.states in
    let right = c.self.invariant in
    record {
      expanded = right.expanded;
      classes = right.classes;
      cached = subst (AreStates t s.classes.count) (sym c.truncate.ensures) (emptied_states t s.classes.count s.cached right.cached);
      table = subst (λ (states : StateList). IsTable t s.classes states.items c.write_first.new.transitions.items) (sym c.truncate.ensures)
          (first_table t s.classes c.write_first.new.transitions.items right.classes c.write_first.ensures.rows
          (take 5 s.cached.items) (length-take-le 5 s.cached.items right.cached.first));
      capacity = c.write_first.ensures.room;
      room = right.room;
      memory = right.memory;
    }
