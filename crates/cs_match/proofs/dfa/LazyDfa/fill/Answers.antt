use Rattle.std.proofs.Common.{◌≡◌, ◌*◌, ◌∙◌, ℕ, length, refl, sym, ap, subst}
use Rattle.std.proofs.lemmas.Bool.{eq-eqb, ne_eqb}
use Rattle.cs_syntax.specs.Matching.{Tree}
use Rattle.cs_match.specs.declared.state.State.{State}
use Rattle.cs_match.specs.declared.dfa.StateCache.{StateCache}
use Rattle.cs_match.specs.declared.glushkov.Scratch.{Scratch}
use Rattle.cs_match.specs.Digits.{IsBlock}
use Rattle.cs_match.specs.Glushkov.{cuts_of}
use Rattle.cs_match.specs.LazyDfa.{accepting, accepted_number, state_at}
use Rattle.cs_match.specs.Masks.{IsScratch}
use Rattle.cs_match.specs.States.{start, successor, accepts_before}
use Rattle.cs_match.specs.ConsistentDfa.{Dfa, IsConsistent, HasSlot}
use Rattle.cs_match.proofs.StateLemmas.{length-successor}
use Rattle.cs_match.proofs.TransitionLemmas.{some_classes, leads_start}
use Rattle.cs_match.proofs.dfa.LazyDfa.fill.Goals as goal
use Rattle.cs_match.proofs.dfa.LazyDfa.fill.Goals.{in-true-eq10, in-true-default, in-false-eq10}

-- the invariant holds with a successor as the state under construction
moved : (t : Tree) (s : StateCache) (from state : State) (b : ℕ) (memory : Scratch) → IsConsistent t s → state ≡ successor t from b →
    IsScratch t memory →
    IsConsistent t (record { transitions = s.transitions; classes = s.classes; cached = s.cached; scratch = state; memory = memory })
moved t s from state b memory right is ready = record {
  expanded = right.expanded;
  classes = right.classes;
  cached = right.cached;
  table = right.table;
  capacity = right.capacity;
  room = ap (λ (n : State). length n.positions) is ∙ length-successor t from b;
  memory = ready;
}

pub step_over-accepts-requires-clause-block : goal.step_over-accepts-requires-clause-block
step_over-accepts-requires-clause-block c =
    let t = c.self.inside.program.now in
    subst (λ (n : State). IsBlock (cuts_of t) n.behind.unfinished) (sym (c.load.ensures (start t))) (c.self.invariant.cached.blocks c.args.slot)

pub invariant_of-self : goal.invariant_of-self
invariant_of-self c =
    moved _ c.self.inside.states _ _ _ _ c.self.invariant c.step_over-accepts.ensures.moved c.step_over-accepts.ensures.scratch

pub invariant_of-self-in-true-default : goal.invariant_of-self-in-true-default
invariant_of-self-in-true-default c =
    moved _ c.self.inside.states _ _ _ _ c.self.invariant c.step_over-accepts.ensures.moved c.step_over-accepts.ensures.scratch

pub invariant_of-self-in-false-eq10 : goal.invariant_of-self-in-false-eq10
invariant_of-self-in-false-eq10 c =
    moved _ c.self.inside.states _ _ _ _ c.self.invariant c.step_over-accepts.ensures.moved c.step_over-accepts.ensures.scratch

pub invariant_of-self-in_default : goal.invariant_of-self-in_default
invariant_of-self-in_default c =
    moved _ c.self.inside.states _ _ _ _ c.self.invariant c.step_over-accepts.ensures.moved c.step_over-accepts.ensures.scratch

pub next_number-requires-clause-stays : goal.next_number-requires-clause-stays
next_number-requires-clause-stays c =
    let t = c.self.inside.program.now in
    ap (λ (n : State). accepts_before t n c.args.byte) (sym (c.load.ensures (start t))) ∙ sym c.in_default.ensures.accepting

pub next_number-requires-clause-scratch : goal.next_number-requires-clause-scratch
next_number-requires-clause-scratch c =
    let t = c.self.inside.program.now in
    c.step_over-accepts.ensures.moved ∙ ap (λ (n : State). successor t n c.args.byte) (c.load.ensures (start t))

pub put-requires-clause-slot : goal.put-requires-clause-slot
put-requires-clause-slot c =
    let slot = subst (λ (d : Dfa). HasSlot d c.args.slot) (sym c.self.view_is) c.requires.slot in
    elim c.if-accepts.branch [
      | in-true-eq10 w ↦ subst (λ (d : Dfa). HasSlot d c.args.slot) (sym w.self-is) slot
      | in-true-default w ↦ subst (λ (d : Dfa). HasSlot d c.args.slot) (sym w.self-is) slot
      | in-false-eq10 w ↦ subst (λ (d : Dfa). HasSlot d c.args.slot) (sym w.self-is) slot
    ]

pub put-requires-clause-leads : goal.put-requires-clause-leads
put-requires-clause-leads c =
    let t = c.self.inside.program.now in
    let s = c.self.inside.states in
    let from = state_at t s.cached.items c.args.slot in
    let loaded = ap (λ (n : State). accepts_before t n c.args.byte) (c.load.ensures (start t)) in
    elim c.if-accepts.branch [
      | in-true-eq10 w ↦
          let number : accepted_number s.classes.count c.args.byte ≡ 0 = rw (eq-eqb c.args.byte 10 w.in-true-eq10.is-1) refl in
          rw (w.self-is, w.next-is) (accepting (sym number) (sym (w.in-true-eq10.ensures.accepting ∙ loaded)))
      | in-true-default w ↦
          let number : accepted_number s.classes.count c.args.byte ≡ 2 * s.classes.count =
          rw (ne_eqb c.args.byte 10 w.in-true-default.is-1.1) refl in
          rw (w.self-is, w.next-is) (accepting (sym number) (sym (w.in-true-default.ensures.accepting ∙ loaded)))
      | in-false-eq10 w ↦
          rw (w.self-is, w.next-is)
          (leads_start t s.classes.count s.cached from c.args.byte (some_classes t s.classes c.self.invariant.classes)
          c.self.invariant.cached w.in-false-eq10.is-1 (sym (w.in-false-eq10.ensures.accepting ∙ loaded)))
    ]
