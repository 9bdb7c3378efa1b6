use Rattle.std.proofs.Common.{sym, subst, ◌+◌, ◌*◌, get_or, get_or-set_same, arith}
use Rattle.cs_match.specs.ConsistentDfa.{Dfa, HasSlot, LeadsIn, state_in}
use Rattle.cs_match.proofs.TransitionLemmas.{transition_in, put_transition}
use Rattle.cs_match.proofs.dfa.LazyDfa.put.Goals as goal

pub index_mut-requires : goal.index_mut-requires
index_mut-requires c =
    let s = c.self.inside.states in
    let right = c.self.invariant in
    omega (
      arith,
      transition_in c.self.inside.program.now s.classes s.cached s.transitions.items right.classes right.cached right.table c.args.slot
          c.args.byte c.args.next (subst (λ (d : Dfa). HasSlot d c.args.slot) (sym c.self.view_is) c.requires.slot) (omega arith)
          (subst (λ (d : Dfa). LeadsIn d (state_in d c.args.slot) c.args.byte c.args.next) (sym c.self.view_is) c.requires.leads),
      s.transitions.ok.0,
    )

pub invariant_of-self : goal.invariant_of-self
invariant_of-self c =
    let s = c.self.inside.states in
    let right = c.self.invariant in
    record {
      expanded = right.expanded;
      classes = right.classes;
      cached = right.cached;
      table = put_transition c.self.inside.program.now s.classes s.cached s.transitions.items right.classes right.cached right.table
          c.args.slot c.args.byte c.args.next (subst (λ (d : Dfa). HasSlot d c.args.slot) (sym c.self.view_is) c.requires.slot) (omega arith)
          (subst (λ (d : Dfa). LeadsIn d (state_in d c.args.slot) c.args.byte c.args.next) (sym c.self.view_is) c.requires.leads);
      capacity = right.capacity;
      room = right.room;
      memory = right.memory;
    }

pub returns-clause-leads : goal.returns-clause-leads
returns-clause-leads c =
    rw (← c.self.view_is)
    (subst (λ (d : Dfa). LeadsIn d (state_in d c.args.slot) c.args.byte c.args.next) (sym c.self.view_is) c.requires.leads)

pub returns-clause-stored : goal.returns-clause-stored
returns-clause-stored c =
    let s = c.self.inside.states in
    let right = c.self.invariant in
    rw (← c.self.view_is)
    (get_or-set_same s.transitions.items (c.args.slot * s.classes.count + get_or s.classes.of c.args.byte 0) c.args.next 0
    (transition_in c.self.inside.program.now s.classes s.cached s.transitions.items right.classes right.cached right.table c.args.slot
    c.args.byte c.args.next (subst (λ (d : Dfa). HasSlot d c.args.slot) (sym c.self.view_is) c.requires.slot) (omega arith)
    (subst (λ (d : Dfa). LeadsIn d (state_in d c.args.slot) c.args.byte c.args.next) (sym c.self.view_is) c.requires.leads)))
