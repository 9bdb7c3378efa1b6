use Rattle.std.proofs.Common.{◌∙◌, ◌/◌, refl, sym, ap, subst, arith}
use Rattle.cs_match.specs.declared.state.State.{State}
use Rattle.cs_match.specs.ConsistentDfa.{Dfa, IsConsistent, IsInSlot, IsKnown, HasSlot, HasTransition, LeadsIn, count_in}
use Rattle.cs_match.proofs.KnownScanLemmas.{known_next, known_step}
use Rattle.cs_match.proofs.TransitionLemmas.{known_leads}
use Rattle.cs_match.proofs.dfa.LazyDfa.next.Goals as goal

pub next-next-requires-clause-row : goal.next-next-requires-clause-row
next-next-requires-clause-row c = c.table.ensures.states.row c.args.from c.requires.number.0 c.requires.number.1

pub returns-else-next-count-clause-leads : goal.returns-else-next-count-clause-leads
returns-else-next-count-clause-leads c = λ state stands.
    let s = c.args.self.now in
    known_leads s.tree (count_in s) s.states.cached.items state c.args.byte c.next-next.result
    (subst (λ x. HasTransition s state c.args.byte x) (sym c.next-next.ensures) (c.table.ensures.states.next c.args.from c.args.byte state (omega arith) stands))
    (λ e. c.if-next-count.false (e ∙ sym (ap count_in c.self.view_is)))

pub fill-requires : goal.fill-requires
fill-requires c = record {
  slot = subst (λ n. HasSlot c.args.self.now (c.args.from / n)) (sym (ap count_in c.self.view_is))
      (c.table.ensures.states.slot c.args.from c.args.byte c.requires.number.0 (omega arith) c.requires.number.1
      (sym c.next-next.ensures ∙ c.if-next-count.true ∙ ap count_in c.self.view_is)).0;
}

pub returns-then-next-count-clause-leads : goal.returns-then-next-count-clause-leads
returns-then-next-count-clause-leads c = λ state stands.
    let at = subst (λ n. IsInSlot c.args.self.now (c.args.from / n) state) (sym (ap count_in c.self.view_is))
    (c.table.ensures.states.slot c.args.from c.args.byte state (omega arith) stands
    (sym c.next-next.ensures ∙ c.if-next-count.true ∙ ap count_in c.self.view_is)) in
    subst (λ (n : State). LeadsIn c.fill.new.self n c.args.byte c.fill.result) at.1 c.fill.ensures.leads

pub returns-then-next-count-clause-known : goal.returns-then-next-count-clause-known
returns-then-next-count-clause-known c = λ rest bytes known.
    let s = c.args.self.now in
    let right = subst (λ (d : Dfa). IsConsistent d.tree d.states) c.self.view_is c.self.invariant in
    absurd (known_next s right c.args.from c.args.byte rest bytes known
    (sym (c.next-next.ensures ∙ c.table.ensures.states.same c.args.from c.args.byte) ∙ c.if-next-count.true ∙ ap count_in c.self.view_is))

pub returns-else-next-count-clause-known : goal.returns-else-next-count-clause-known
returns-else-next-count-clause-known c = λ rest bytes known.
    let s = c.args.self.now in (
      refl,
      subst (λ n. IsKnown s n rest) (sym (c.next-next.ensures ∙ c.table.ensures.states.same c.args.from c.args.byte))
          (known_step s c.args.from c.args.byte rest known),
      c.add.ensures,
    )
