use Rattle.std.proofs.Common.{ℕ, ◌-◌, length, take, ap}
use Rattle.cs_match.specs.Automaton.{Automaton}
use Rattle.cs_match.proofs.matcher.Matcher.add_steps.Goals as goal

pub returns : goal.returns
returns c =
    let dfa = c.self.inside.lister.dfa in
    let at : ℕ → Automaton = λ n. record {
      tree = dfa.tree;
      states = length dfa.states.cached.items - 4;
      ends = take c.self.inside.listed c.self.inside.ends.items;
      steps = n;
    } in
    rw (← c.self.view_is) (ap at c.add.ensures)
