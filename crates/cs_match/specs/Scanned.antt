-- Scans of the lazy DFA that list the ends of matching lines.
use Rattle.std.specs.Prelude.{ℕ, ◌≡◌, ◌≢◌, ◌+◌, ◌-◌, ◌<◌, ◌≤◌, Bool, false, List, [], ◌∷◌, ◌++◌, drop, length, nat_eq, if◌then◌else◌, slice_range, slice_index}
use Rattle.cs_syntax.specs.Matching.{Tree}
use Rattle.cs_match.specs.declared.dfa.Scan.{Scan}
use Rattle.cs_match.specs.declared.state.State.{State}
use Rattle.cs_match.specs.ConsistentDfa.{Dfa, HasState, IsKnown}
use Rattle.cs_match.specs.Deciding.{Decides}
use Rattle.cs_match.specs.LastPart.{last_part}
use Rattle.cs_match.specs.Lines.{newline}
use Rattle.cs_match.specs.MatchingEnds.{matching_ends}
use Rattle.cs_match.specs.States.{start, next_state, state, accepts_before}
use Rattle.cs_match.specs.Table.{found}
use Rattle.cs_tree.specs.declared.steps.Steps.{Steps}

-- the tree accepts before no byte of an unfinished line, from a given state
abbrev pub NeverAccepted : Tree → State → List ℕ → Type 0
NeverAccepted t n [] = Unit {0}
NeverAccepted t n (b ∷ part) = (accepts_before t n b ≡ false) × NeverAccepted t (next_state t n b) part

-- the part of the last line that is scanned
abbrev pub scanned_part : List ℕ → Scan → List ℕ
scanned_part text scan = last_part (slice_range text scan.from scan.to)

-- the tree accepts before no byte of this part, and the number is that of the state after it
pub record HasScanned (dfa : Dfa) (text : List ℕ) (scan : Scan) : Type 0 where
  pub low : scan.from ≤ scan.to
  pub within : scan.to ≤ length text
  pub part : NeverAccepted dfa.tree (start dfa.tree) (scanned_part text scan)
  pub at : HasState dfa scan.number (state dfa.tree (scanned_part text scan))

-- The scan moves on by known transitions alone: the DFA stays as it is, and each byte takes one step.
pub record FollowsKnown (old new : Dfa) (text : List ℕ) (from to : Scan) (before after : Steps) : Type 0 where
  pub same : new ≡ old
  pub known : IsKnown new to.number (drop to.to text)
  pub work : after.count ≡ before.count + (to.to - from.to)

-- the scan moves on, and no matching line ends there; it leaves the first row
pub record PassesLines (t : Tree) (text : List ℕ) (old new : Scan) : Type 0 where
  pub from : new.from ≡ old.from
  pub none : (has_match : List ℕ → Bool) → Decides has_match t →
      matching_ends has_match text old.from new.to ≡ matching_ends has_match text old.from old.to
  pub leaves : old.to < new.to → new.number ≢ found

-- the scan moves on, and a matching line ends there if and only if its state is *found*: it ends at the last byte
pub record ListsLine (t : Tree) (text : List ℕ) (old new : Scan) : Type 0 where
  pub from : new.from ≡ old.from
  pub moves : old.to < new.to
  pub newline : new.number ≡ found → slice_index text (new.to - 1) ≡ newline
  pub ends : (has_match : List ℕ → Bool) → Decides has_match t →
      matching_ends has_match text old.from new.to ≡ matching_ends has_match text old.from old.to
      ++ (if nat_eq new.number found then (new.to - 1) ∷ [] else [])
