-- What a list of the matching lines from an offset on says.
use Rattle.std.specs.Prelude.{ℕ, ◌≡◌, ◌<◌, ◌≤◌, ◌+◌, ◌-◌, List, length, slice_index, slice_range}
use Rattle.cs_syntax.specs.Matching.{Tree}
use Rattle.cs_prefilter.specs.declared.listing.Listed.{Listed}
use Rattle.cs_match.specs.declared.dfa.EndList.{EndList}
use Rattle.cs_match.specs.declared.listing.Lister.{Lister}
use Rattle.cs_match.specs.Automaton.{Automaton}
use Rattle.cs_match.specs.ConsistentDfa.{StepsWithin}
use Rattle.cs_match.specs.Deciding.{Decides}
use Rattle.cs_match.specs.Lanes.{AreListed}
use Rattle.cs_match.specs.NoNewline.{HasNoNewline}
use Rattle.cs_match.specs.Skipped.{AreLinesBetween}

-- what contracts see of a lister with a list; the first four states are no others than the start state
abbrev pub automaton_of : Lister → List ℕ → Automaton
automaton_of l ends =
    record { tree = l.dfa.tree; states = length l.dfa.states.cached.items - 4; ends = ends; steps = l.steps.count }

-- a call keeps the tree, and takes at most so many steps
abbrev pub CountsWithin : ℕ → Lister → Lister → Type 0
CountsWithin bound old new = StepsWithin bound old.dfa new.dfa old.steps new.steps

-- Those up to `lines.to` are listed, of at least one line unless the block ends. A list with room for one ends with its
-- line.
pub record ListsLines (t : Tree) (block : List ℕ) (from : ℕ) (lines : EndList) (ends : List ℕ) : Type 0 where
  pub listed : AreListed (λ has_match. Decides has_match t) block from lines.to lines.count ends
  pub moves : from < length block → from < lines.to
  pub one : length ends ≡ 1 → lines.count ≡ 1 → lines.to ≡ slice_index ends 0 + 1

-- Those of the lines before `words.to` are listed, which may lie in a line: those up to the start of that line. A full list
-- ends with the line of its last end.
pub record IsListedTo (t : Tree) (block : List ℕ) (from : ℕ) (words : Listed) (ends : List ℕ) : Type 0 where
  pub moves : from < words.to
  pub high : words.to ≤ length block
  pub room : words.count ≤ length ends
  pub listed : (start : ℕ) → AreLinesBetween block from start → start ≤ words.to → HasNoNewline (slice_range block start words.to) →
      AreListed (λ has_match. Decides has_match t) block from start words.count ends
  pub full : words.count ≡ length ends → words.to ≡ slice_index ends (words.count - 1) + 1
