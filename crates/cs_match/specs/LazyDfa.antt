-- The lazy DFA (RE2): the cached states and the transition table, a row of transitions for each state and a transition in it for each
-- class of bytes. The number of a state is the index of the first transition of its row. The first rows are those of a start
-- state, of three special states (a transition that is unknown, a match, a dead state) and of the start state.
use Rattle.std.specs.Prelude.{ℕ, ◌≡◌, ◌≢◌, ◌+◌, ◌*◌, ◌<◌, ◌≤◌, ◌⊎◌, ◌/◌, min, max, true, false, List, length, replicate, slice_index, slice_index_or, nat_eq, if◌then◌else◌}
use Rattle.cs_syntax.specs.Matching.{Tree}
use Rattle.cs_match.specs.declared.byte_classes.ByteClasses.{ByteClasses}
use Rattle.cs_match.specs.declared.state.State.{State}
use Rattle.cs_match.specs.CachedStates.{StateList}
use Rattle.cs_match.specs.Lines.{newline}
use Rattle.cs_match.specs.Glushkov.{position_count, cuts_of}
use Rattle.cs_match.specs.Digits.{IsBlock}
use Rattle.cs_match.specs.States.{start, successor, accepts_before, IsDead}
use Rattle.cs_match.specs.Work.{words}

-- the numbers of the special states and of the start state, for so many classes
abbrev pub unknown_number : ℕ → ℕ
unknown_number count = count

abbrev pub match_number : ℕ → ℕ
match_number count = 2 * count

abbrev pub dead_number : ℕ → ℕ
dead_number count = 3 * count

abbrev pub start_number : ℕ → ℕ
start_number count = 4 * count

-- the transition over a byte before which a state accepts: the match state, or the first row if the line ends there
abbrev pub accepted_number : ℕ → ℕ → ℕ
accepted_number count b = if nat_eq b newline then 0 else match_number count

-- the state in a slot
abbrev pub state_at : Tree → List State → ℕ → State
state_at t states slot = slice_index_or states slot (start t)

-- the slot is that of a cached state, and not of a special one
pub record IsSlot (states : List State) (slot : ℕ) : Type 0 where
  pub within : slot < length states
  pub ordinary : (slot ≡ 0) ⊎ (4 ≤ slot)

-- the number stands for the state: it is the number of a cached state, which is this one, or that of the dead state
pub data StandsFor (t : Tree) (count : ℕ) (states : List State) (number : ℕ) (state : State) : Type 0 where
  cached : (slot : ℕ) → number ≡ slot * count → IsSlot states slot → state_at t states slot ≡ state →
      StandsFor t count states number state
  dead : number ≡ dead_number count → IsDead t state → StandsFor t count states number state

-- A correct transition of a state over the byte b: the match state, or the first row if the line ends there, if the state accepts
-- before the byte; otherwise a number that stands for its successor, which is that of the start state over a newline, and
-- never that of the first row.
pub data Leads (t : Tree) (count : ℕ) (states : List State) (state : State) (b number : ℕ) : Type 0 where
  accepting : number ≡ accepted_number count b → accepts_before t state b ≡ true → Leads t count states state b number
  next : accepts_before t state b ≡ false → StandsFor t count states number (successor t state b) → number ≢ 0 →
      (b ≡ newline → number ≡ start_number count) → Leads t count states state b number

-- a transition of a cached state is unknown or correct
pub data IsTransition (t : Tree) (count : ℕ) (states : List State) (state : State) (b transition : ℕ) : Type 0 where
  unknown : transition ≡ unknown_number count → IsTransition t count states state b transition
  known : Leads t count states state b transition → IsTransition t count states state b transition

-- the transition over a class of a state that stays until the newline
abbrev pub until_newline : ByteClasses → ℕ → ℕ → ℕ → ℕ
until_newline classes stays ends c = if nat_eq c (slice_index classes.of newline) then ends else stays

-- the rows of the special states: the unknown state stays, and the match and the dead state stay until the newline
pub record AreSpecialRows (classes : ByteClasses) (transitions : List ℕ) : Type 0 where
  pub at_unknown : (c : ℕ) → c < classes.count → slice_index transitions (unknown_number classes.count + c) ≡ unknown_number classes.count
  pub at_match : (c : ℕ) → c < classes.count →
      slice_index transitions (match_number classes.count + c) ≡ until_newline classes (match_number classes.count) 0 c
  pub at_dead : (c : ℕ) → c < classes.count →
      slice_index transitions (dead_number classes.count + c) ≡ until_newline classes (dead_number classes.count) (start_number classes.count) c

-- the table of the first rows, in which no transition of the start state is known
pub record AreFirstRows (classes : ByteClasses) (transitions : List ℕ) : Type 0 where
  pub all : length transitions ≡ 5 * classes.count
  pub special : AreSpecialRows classes transitions
  pub at_found : (c : ℕ) → c < classes.count → slice_index transitions c ≡ unknown_number classes.count
  pub at_start : (c : ℕ) → c < classes.count → slice_index transitions (start_number classes.count + c) ≡ unknown_number classes.count

-- the most states for so many classes and so many words of a set: 65,536 transitions and, beyond 254 states, 262,144 words
abbrev pub most_rows : ℕ → ℕ → ℕ
most_rows count words = min (min (65536 / count) 65535) (max (262144 / max words 1) 254)

-- five times the start state, with room for as many states as there can be, and for the row of each
pub record AreFirstStates (count : ℕ) (first : State) (states : StateList) : Type 0 where
  pub all : states.items ≡ replicate 5 first
  pub most : states.most ≡ most_rows count (words (length first.positions))
  pub more : 6 ≤ states.most
  pub fits : states.most * count ≤ 65536
  pub sized : states.positions ≡ length first.positions

-- there is room for one more state than the first ones, and for the row of each; a state has a truth value for each
-- position, and an unfinished character of a whole block
pub record AreStates (t : Tree) (count : ℕ) (states : StateList) : Type 0 where
  pub first : 5 ≤ length states.items
  pub bound : length states.items ≤ states.most
  pub more : 6 ≤ states.most
  pub fits : states.most * count ≤ 65536
  pub sized : states.positions ≡ position_count t
  pub found : state_at t states.items 0 ≡ start t
  pub begin : state_at t states.items 4 ≡ start t
  pub positions : (slot : ℕ) → length (state_at t states.items slot).positions ≡ position_count t
  pub blocks : (slot : ℕ) → IsBlock (cuts_of t) (state_at t states.items slot).behind.unfinished

-- each state has a row, each transition has the number of a row, the rows of the special states are as at first, and each
-- transition of the others is unknown or correct
pub record IsTable (t : Tree) (classes : ByteClasses) (states : List State) (transitions : List ℕ) : Type 0 where
  pub rows : length transitions ≡ length states * classes.count
  pub numbers : (k : ℕ) → k < length transitions → (slot : ℕ) × (slot < length states) × (slice_index transitions k ≡ slot * classes.count)
  pub special : AreSpecialRows classes transitions
  pub right : (slot b : ℕ) → IsSlot states slot → b < 256 →
      IsTransition t classes.count states (state_at t states slot) b (slice_index transitions (slot * classes.count + slice_index classes.of b))
