-- Runs: what is known of the bytes before an offset of a line while the sequence of a tree is read from left
-- to right.
use Rattle.std.specs.Prelude.{ℕ, ◌≡◌, ◌≤◌, Bool, true, List, length, drop, max, vec_len}
use Rattle.cs_syntax.specs.Matching.{is_at_word_boundary, MatchesSequence}
use Rattle.cs_syntax.specs.NodeList.{trees_of}
use Rattle.cs_syntax.specs.declared.node.Node.{Node}
use Rattle.cs_prefilter.specs.WordAt.{IsLine}
use Rattle.cs_prefilter.specs.Words.{SetsEndAt, IsBehind, HasWordOf}
use Rattle.cs_prefilter.specs.declared.runs.Runs.{Runs}

-- the sets from an index on
abbrev pub sets_from : ℕ → Runs → List (List Bool)
sets_from at runs = drop at runs.sets.items

-- the current run
abbrev pub current_sets : Runs → List (List Bool)
current_sets runs = sets_from runs.start runs

-- the sets from an index on end at an offset of the line; if they are the current run, it begins as is known of it
pub record EndsAt (line : List ℕ) (runs : Runs) (from offset : ℕ) : Type 0 where
  pub is_line : IsLine line
  pub ends : SetsEndAt line (sets_from from runs) offset
  pub before : from ≡ runs.start → IsBehind runs.before line ends.start
  pub edge : from ≡ runs.start → runs.is_at_edge ≡ true → is_at_word_boundary line ends.start ≡ true

-- the current run ends at the offset
abbrev pub RunEnds : Runs → List ℕ → ℕ → Type 0
RunEnds runs line offset = EndsAt line runs runs.start offset

-- a run that begins next may begin anywhere in a line
abbrev pub MayBeginAnywhere : Runs → Type 0
MayBeginAnywhere runs = (line : List ℕ) (offset : ℕ) → IsLine line → offset ≤ length line → EndsAt line runs (vec_len runs.sets) offset

-- if the current run ends at an offset of a line, and the line contains one of the old best words, it contains one of the
-- new best words
abbrev pub KeepsBest : Runs → Runs → Type 0
KeepsBest old new = (line : List ℕ) (j : ℕ) → RunEnds old line j → HasWordOf line old.best → HasWordOf line new.best

-- the current run is the same
pub record IsSameRun (old new : Runs) : Type 0 where
  pub sets : new.sets.items ≡ old.sets.items
  pub start : new.start ≡ old.start
  pub before : new.before ≡ old.before
  pub edge : new.is_at_edge ≡ old.is_at_edge

-- `Spans` says which spans of a line the part matches. For each of them, from i to j: if a suffix of the old
-- run ends at i, then the suffix of the new run from the same index on ends at j. And if the old run ends at
-- i and the line contains one of the old best words, then it contains one of the new best words.
pub record RunsFollow (Spans : List ℕ → ℕ → ℕ → Type 0) (old new : Runs) : Type 0 where
  pub rises : old.start ≤ new.start
  pub grows : length old.sets.items ≤ length new.sets.items
  pub ends : (from : ℕ) → old.start ≤ from → from ≤ length old.sets.items →
      (line : List ℕ) (i j : ℕ) → Spans line i j →
      EndsAt line old from i → EndsAt line new (max from new.start) j
  pub best : (line : List ℕ) (i j : ℕ) → Spans line i j → RunEnds old line i →
      HasWordOf line old.best → HasWordOf line new.best

-- the spans that the trees match next
abbrev pub IsFollowed : List Node → (List ℕ → ℕ → ℕ → Type 0) → List ℕ → ℕ → ℕ → Type 0
IsFollowed after Spans line i j = Spans line i j × ((l : ℕ) × MatchesSequence line (trees_of after) j l)
