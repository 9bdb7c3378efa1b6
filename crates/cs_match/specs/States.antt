-- DFA states: a position set, two look-behind bits and the unfinished character. A state keeps only what its tree
-- reads (`specs/LookBehind.antt`). The rest of a line has the same result from equal states.
use Rattle.std.specs.Prelude.{ℕ, ◌≡◌, Bool, true, false, ◌&&◌, List, [], ◌∷◌, replicate, nat_eq, if◌then◌else◌}
use Rattle.std.specs.Bool.{xor}
use Rattle.cs_syntax.specs.Matching.{Tree, is_word}
use Rattle.cs_syntax.specs.CharSteps.{finished, unfinished_after}
use Rattle.cs_match.specs.declared.position.Input.{Input}
use Rattle.cs_match.specs.declared.state.LookAround.{LookAround}
use Rattle.cs_match.specs.declared.state.State.{State}
use Rattle.cs_match.specs.Lines.{newline}
use Rattle.cs_match.specs.Glushkov.{position_count, step, accepts, char_step_of}
use Rattle.cs_match.specs.LookBehind.{look_behind}

-- the start state
abbrev pub start : Tree → State
start t = record {
  positions = replicate (position_count t) false;
  behind = record { first = (look_behind t).first; word = false; unfinished = finished };
}

-- the byte is a word byte, and the tree has `\b` or `\B`
abbrev pub is_word_for : Tree → ℕ → Bool
is_word_for t b = is_word b && (look_behind t).word

-- the look-around before the byte b of a line
abbrev pub ahead : Tree → State → ℕ → LookAround
ahead t state b = record { first = state.behind.first; last = false; edge = xor state.behind.word (is_word_for t b) }

-- the look-around at the end of a line
abbrev pub look_at_end : State → LookAround
look_at_end state = record { first = state.behind.first; last = true; edge = state.behind.word }

-- the byte b as input
abbrev pub input : Tree → State → ℕ → Input
input t state b = record { byte = b; char = char_step_of t state.behind.unfinished b }

-- the state after the byte b of the line
abbrev pub next_state : Tree → State → ℕ → State
next_state t state b = record {
  positions = step t true state.positions (ahead t state b) (input t state b);
  behind = record { first = false; word = is_word_for t b; unfinished = unfinished_after (input t state b).char };
}

-- the state after the bytes, from a given state
abbrev pub state_through : Tree → State → List ℕ → State
state_through t state [] = state
state_through t state (b ∷ bs) = state_through t (next_state t state b) bs

-- the state after these bytes of a line
abbrev pub state : Tree → List ℕ → State
state t line = state_through t (start t) line

-- the look-around before the byte b; a newline is the end of the line
abbrev pub before : Tree → State → ℕ → LookAround
before t state b = if nat_eq b newline then look_at_end state else ahead t state b

-- the successor over the byte b: the start state if it is the newline
abbrev pub successor : Tree → State → ℕ → State
successor t state b = if nat_eq b newline then start t else next_state t state b

-- the state accepts before the byte b
abbrev pub accepts_before : Tree → State → ℕ → Bool
accepts_before t state b = accepts t true state.positions (before t state b)

-- a dead state: after no bytes from there on does the tree accept
abbrev pub IsDead : Tree → State → Type 0
IsDead t state = (bytes : List ℕ) (b : ℕ) → accepts_before t (state_through t state bytes) b ≡ false
