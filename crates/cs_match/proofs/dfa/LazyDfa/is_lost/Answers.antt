use Rattle.std.proofs.Common.{◌≡◌, replicate, false, sym, ◌∙◌, ap, subst}
use Rattle.cs_match.specs.ConsistentDfa.{Dfa}
use Rattle.cs_match.proofs.DeadLemmas.{is_dead}
use Rattle.cs_match.proofs.dfa.LazyDfa.is_lost.Goals as goal

pub returns-then-is_anchored-clause-dead : goal.returns-then-is_anchored-clause-dead
returns-then-is_anchored-clause-dead c =
    let t = c.self.inside.program.now in
    let later = subst (λ (d : Dfa). d.states.scratch.behind.first ≡ false) (sym c.self.view_is) c.requires.later in
    rw (← c.self.view_is) (λ h.
    is_dead t (sym c.is_anchored.ensures ∙ c.if-is_anchored.true) c.self.inside.states.scratch
    (c.is_empty.ensures.none h ∙ ap (λ n. replicate n false) c.self.invariant.room) later)
