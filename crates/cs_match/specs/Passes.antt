-- Passes of the position automaton over a line, in which a match may begin between two offsets only.
use Rattle.std.specs.Prelude.{ℕ, ◌≡◌, ◌+◌, ◌-◌, ◌*◌, ◌<◌, ◌≤◌, Bool, true, false, not, ◌&&◌, List, length, replicate, nat_le, nat_lt, ◌↔◌}
use Rattle.cs_syntax.specs.Matching.{Tree, MatchesSpan, word_before, word_after}
use Rattle.cs_match.specs.declared.spans.pass.Pass.{Pass}
use Rattle.cs_match.specs.Glushkov.{look_around, input_at, position_count, positions, accepts_at, unfinished_before, IsExpanded}
use Rattle.cs_match.specs.Masks.{IsScratch}
use Rattle.cs_match.specs.Span.{IsWholeWord}
use Rattle.cs_match.specs.SpanWork.{pass_work}

-- an offset at or after `from`, and before `until`
abbrev pub between : ℕ → ℕ → ℕ → Bool
between from until i = nat_le from i && nat_lt i until

-- a match may begin between these offsets; if it has to be a whole word, only after no word byte
abbrev pub may_begin : Bool → List ℕ → ℕ → ℕ → ℕ → Bool
may_begin whole s from until i = between from until i && not (whole && word_before s i)

-- and end only before none
abbrev pub may_end : Bool → List ℕ → ℕ → Bool
may_end whole s i = not (whole && word_after s i)

-- the position set at offset i
abbrev pub positions_in : Bool → List ℕ → Tree → ℕ → ℕ → ℕ → List Bool
positions_in whole s t from until i = positions (look_around t s) (input_at t s) t (may_begin whole s from until) i

-- a match ends at offset i
abbrev pub ends_in : Bool → List ℕ → Tree → ℕ → ℕ → ℕ → Bool
ends_in whole s t from until i =
    accepts_at (look_around t s) (input_at t s) t (may_begin whole s from until) i && may_end whole s i

-- A pass finds the ends of the matches that begin in its part of the line. Its set is empty before that part, and an
-- empty set after it stays empty.
pub record PassesFindEnds (whole : Bool) (s : List ℕ) (t : Tree) (from until : ℕ) : Type 0 where
  pub found : (i : ℕ) → i ≤ length s →
      ends_in whole s t from until i ≡ true
      ↔ ((start : ℕ) × (from ≤ start) × (start < until) × (start ≤ i) × MatchesSpan s t start i × (whole ≡ true → IsWholeWord s start i))
  pub blank : (i : ℕ) → i ≤ from → positions_in whole s t from until i ≡ replicate (position_count t) false
  pub over : (i more : ℕ) → until ≤ i → positions_in whole s t from until i ≡ replicate (position_count t) false →
      ends_in whole s t from until (more + i) ≡ false

-- the memory of the passes of a tree
abbrev pub IsPassOf : Tree → Pass → Type 0
IsPassOf t pass = (length pass.positions ≡ position_count t) × IsScratch t pass.scratch × IsExpanded t

-- the pass is at this offset of the line
pub record IsPassAt (whole : Bool) (t : Tree) (s : List ℕ) (from until offset : ℕ) (pass : Pass) : Type 0 where
  pub positions : pass.positions ≡ positions_in whole s t from until offset
  pub unfinished : pass.unfinished ≡ unfinished_before t s offset
  pub scratch : IsScratch t pass.scratch

-- Passes have read some bytes, at most so many. They are counted, the budget has lost them, and each takes a step, and at most
-- `pass_work`.
pub record HasRead (t : Tree) (most : ℕ) (old new : Pass) : Type 0 where
  pub bytes : ℕ
  pub few : bytes ≤ most
  pub read : new.read.count ≡ old.read.count + bytes
  pub left : new.left ≡ old.left - bytes
  pub low : old.steps.count + bytes ≤ new.steps.count
  pub high : new.steps.count ≤ old.steps.count + bytes * pass_work t
