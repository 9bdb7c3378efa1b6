-- What contracts see of a matcher: the tree, the size of its state cache, its last list, and the steps that it has taken.
use Rattle.std.specs.Prelude.{ℕ, ◌+◌, List, refl}
use Rattle.std.specs.Coded.{Coded, code_by, coded_ℕ, coded_list, coded×}
use Rattle.cs_syntax.specs.Matching.{Tree}
use Rattle.cs_syntax.specs.TreeCode.{tree_code}

-- the tree that is matched, the number of cached states, the ends of the matching lines that were listed last, and the number
-- of steps of all calls so far
pub record Automaton : Type 0 where
  pub tree : Tree
  pub states : ℕ
  pub ends : List ℕ
  pub steps : ℕ

-- the automaton after so many steps more
abbrev pub after_steps : ℕ → Automaton → Automaton
after_steps count m = record { tree = m.tree; states = m.states; ends = m.ends; steps = m.steps + count }

-- an automaton is stored as the tuple of its fields
abbrev pub automaton_code : Coded Automaton
automaton_code =
    code_by (Tree × (ℕ × (List ℕ × ℕ))) (coded× tree_code (coded× coded_ℕ (coded× (coded_list coded_ℕ) coded_ℕ)))
    (λ a. (a.tree, (a.states, (a.ends, a.steps))))
    (λ p. record { tree = p.0; states = p.1.0; ends = p.1.1.0; steps = p.1.1.1 }) (λ _. refl)

-- The most cached states: each has a row of at least one transition in the transition table, which has at most 65536.
abbrev pub most_states : ℕ
most_states = 65536
