use Rattle.std.proofs.Common.{length, ap, arith}
use Rattle.cs_match.specs.Automaton.{Automaton}
use Rattle.cs_match.specs.ConsistentDfa.{Dfa}
use Rattle.cs_match.proofs.PositionCountLemmas.{mul_both}
use Rattle.cs_match.proofs.TransitionLemmas.{some_classes}
use Rattle.cs_match.proofs.matcher.Matcher.state_count.Goals as goal

pub returns-clause-exact : goal.returns-clause-exact
returns-clause-exact c = omega (
  arith,
  c.len.ensures,
  ap (λ (d : Dfa). length d.states.cached.items) c.dfa.view_is,
  ap (λ (a : Automaton). a.states) c.self.view_is,
)

pub returns-clause-bound : goal.returns-clause-bound
returns-clause-bound c =
    let s = c.dfa.inside.states in
    let right = c.dfa.invariant in
    omega (
      arith,
      c.len.ensures,
      right.cached.bound,
      right.cached.fits,
      mul_both s.cached.most 1 s.cached.most s.classes.count (omega arith) (omega (arith, some_classes c.dfa.inside.program.now s.classes right.classes)),
    )
