-- What contracts see of the lazy DFA, and its invariant.
use Rattle.std.specs.Prelude.{ℕ, ◌≡◌, ◌≢◌, List, ◌<◌, ◌≤◌, ◌/◌, length, refl, vec_capacity}
use Rattle.std.specs.Coded.{Coded, code_by, coded×}
use Rattle.cs_syntax.specs.Matching.{Tree}
use Rattle.cs_syntax.specs.TreeCode.{tree_code}
use Rattle.cs_match.specs.declared.state.State.{State}
use Rattle.cs_match.specs.declared.dfa.StateCache.{StateCache}
use Rattle.cs_match.specs.contracts.dfa.StateCache.{the_row}
use Rattle.cs_match.specs.ByteClasses.{AreClasses}
use Rattle.cs_match.specs.Glushkov.{position_count, IsExpanded}
use Rattle.cs_match.specs.Masks.{IsScratch}
use Rattle.cs_match.specs.LazyDfa as dfa
use Rattle.cs_match.specs.Table.{next_number, number_after, unknown, IsRow}
use Rattle.cs_match.specs.declared.lanes.Table.{Table}
use Rattle.cs_tree.specs.declared.steps.Steps.{Steps}
use Rattle.cs_tree.specs.CountsAtMost.{CountsAtMost}

-- the tree of the program, and its cached states
pub record Dfa : Type 0 where
  pub tree : Tree
  pub states : StateCache

-- a DFA is stored as the pair of its fields
abbrev pub dfa_code : Coded Dfa
dfa_code =
    code_by (Tree × StateCache) (coded× tree_code (the_row.coded)) (λ t. (t.tree, t.states))
    (λ p. record { tree = p.0; states = p.1 }) (λ _. refl)

-- the number of byte classes
abbrev pub count_in : Dfa → ℕ
count_in t = t.states.classes.count

-- the tree is expanded, the classes, the states and the table are correct, and the memory has the right size
pub record IsConsistent (tree : Tree) (of : StateCache) : Type 0 where
  pub expanded : IsExpanded tree
  pub classes : AreClasses tree of.classes
  pub cached : dfa.AreStates tree of.classes.count of.cached
  pub table : dfa.IsTable tree of.classes of.cached.items of.transitions.items
  pub capacity : 65536 ≤ vec_capacity of.transitions
  pub room : length of.scratch.positions ≡ position_count tree
  pub memory : IsScratch tree of.memory

-- a call keeps the tree, and takes at most so many steps
abbrev pub StepsWithin : ℕ → Dfa → Dfa → Steps → Steps → Type 0
StepsWithin bound old new before after = (new.tree ≡ old.tree) × CountsAtMost bound before after

-- the state in this slot
abbrev pub state_in : Dfa → ℕ → State
state_in t slot = dfa.state_at t.tree t.states.cached.items slot

-- the slot is that of a cached state, and not of a special one
abbrev pub HasSlot : Dfa → ℕ → Type 0
HasSlot t slot = dfa.IsSlot t.states.cached.items slot

-- the number stands for the state
abbrev pub HasState : Dfa → ℕ → State → Type 0
HasState t number state = dfa.StandsFor t.tree (count_in t) t.states.cached.items number state

-- the number is a correct transition of the state over the byte
abbrev pub LeadsIn : Dfa → State → ℕ → ℕ → Type 0
LeadsIn t state b number = dfa.Leads t.tree (count_in t) t.states.cached.items state b number

-- a transition of the state is unknown or correct
abbrev pub HasTransition : Dfa → State → ℕ → ℕ → Type 0
HasTransition t state b transition = dfa.IsTransition t.tree (count_in t) t.states.cached.items state b transition

-- the slot is that of this state
abbrev pub IsInSlot : Dfa → ℕ → State → Type 0
IsInSlot t slot state = HasSlot t slot × (state_in t slot ≡ state)

-- the table of the DFA
abbrev pub table_in : Dfa → Table
table_in t = record {
  transitions = record { ref_ptr = (0, 0); now = t.states.transitions.items };
  of = record { ref_ptr = (0, 0); now = t.states.classes.of };
  count = count_in t;
}

-- a scan of the bytes from a state meets known transitions alone, since it would not leave the state *unknown*
abbrev pub IsKnown : Dfa → ℕ → List ℕ → Type 0
IsKnown t number bytes = number_after (table_in t) number bytes ≢ unknown (table_in t)

-- The table is that of the DFA: a state has a row, its transitions are unknown or correct, and the slot of a state with an
-- unknown one is known.
pub record IsTableOf (t : Dfa) (table : Table) : Type 0 where
  pub count : table.count ≡ count_in t
  pub same : (number b : ℕ) → next_number table number b ≡ next_number (table_in t) number b
  pub row : (number : ℕ) (state : State) → HasState t number state → IsRow table number
  pub next : (number b : ℕ) (state : State) → b < 256 → HasState t number state → HasTransition t state b (next_number table number b)
  pub slot : (number b : ℕ) (state : State) → b < 256 → HasState t number state →
      next_number table number b ≡ count_in t → IsInSlot t (number / count_in t) state
