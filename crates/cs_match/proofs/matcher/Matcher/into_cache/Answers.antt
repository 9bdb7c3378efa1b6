use Rattle.std.proofs.Common.{ap, subst, ◌∙◌}
use Rattle.cs_syntax.specs.Matching.{Tree}
use Rattle.cs_match.specs.Automaton.{Automaton}
use Rattle.cs_match.specs.ConsistentDfa.{Dfa, IsConsistent}
use Rattle.cs_match.proofs.matcher.Matcher.into_cache.Goals as goal

pub returns : goal.returns
returns c = (
  subst (λ (tree : Tree). IsConsistent tree c.dfa.inside.states)
      (ap (λ (d : Dfa). d.tree) c.dfa.view_is ∙ ap (λ (a : Automaton). a.tree) c.self.view_is) c.dfa.invariant,
  c.self.invariant.0,
)
