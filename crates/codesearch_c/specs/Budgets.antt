-- What the calls answer that search a block within a budget of bytes. docs/PATTERNS.md, "Lines".
use Rattle.std.specs.Prelude.{◌≡◌, ◌+◌, ◌<◌, ◌≤◌, ◌⊎◌, ◌∷◌, ℕ, ℤ, pos, List, length, drop, slice_range, count_by, Some, None}
use Rattle.cs_syntax.specs.Matching.{Tree}
use Rattle.cs_match.specs.Lines.{newline, lines}
use Rattle.cs_match.specs.NoNewline.{HasNoNewline}
use Rattle.cs_match.specs.Skipped.{AreLinesBetween}
use Rattle.codesearch_c.specs.declared.lines.LineBounds.{LineBounds}
use Rattle.codesearch_c.specs.declared.within.Budget.{Budget}
use Rattle.codesearch_c.specs.Codes.{done, memory, stopped}
use Rattle.codesearch_c.specs.MatchingLines.{ForEachTest, IsFirstLine, matching_lines}

-- a line of the block begins at an offset, if one begins at `from`
pub record BeginsLine (block : List ℕ) (from at : ℕ) : Type 0 where
  pub lines : AreLinesBetween block from at
  pub within : at < length block

-- and this line ends at another offset
pub record IsLineFrom (block : List ℕ) (from start end : ℕ) : Type 0 where
  pub begins : BeginsLine block from start
  pub order : start ≤ end
  pub part : HasNoNewline (slice_range block start end)
  pub ends : (end ≡ length block) ⊎ (drop end block ≡ newline ∷ drop (end + 1) block)

-- A search of the lines that begin within the budget stops where the first line begins that is after it.
pub record IsStop (block : List ℕ) (budget : Budget) (at : ℕ) : Type 0 where
  pub begins : BeginsLine block budget.from at
  pub spent : budget.from + budget.bytes ≤ at
  pub first : (later : ℕ) → BeginsLine block budget.from later → budget.from + budget.bytes ≤ later → at ≤ later

-- each line begins within the budget
abbrev pub HasNoStop : List ℕ → Budget → Type 0
HasNoStop block budget = (at : ℕ) → BeginsLine block budget.from at → at < budget.from + budget.bytes

-- the budget of a call
abbrev pub budget_of : ℕ → ℕ → Budget
budget_of from bytes = record { from = from; bytes = bytes }

-- 1 and the first matching line, which begins within the budget; 0 where there is none; or the search stops at an offset, and
-- the first matching line is that from there on; or memory is refused. A line and an offset that are not answered stay.
pub data IsNextWithinCode (pattern : Tree) (block : List ℕ) (budget : Budget) (old new : LineBounds) (old_reached reached : ℕ) (code : ℤ) : Type 0 where
  found : code ≡ pos 1 → IsFirstLine pattern block budget.from (Some new) → new.start < budget.from + budget.bytes →
      reached ≡ old_reached → IsNextWithinCode pattern block budget old new old_reached reached code
  none : code ≡ pos 0 → IsFirstLine pattern block budget.from None → HasNoStop block budget → new ≡ old →
      reached ≡ old_reached → IsNextWithinCode pattern block budget old new old_reached reached code
  stops : code ≡ stopped → IsStop block budget reached → ForEachTest pattern (λ has_match.
      matching_lines has_match block budget.from ≡ matching_lines has_match block reached) → new ≡ old →
      IsNextWithinCode pattern block budget old new old_reached reached code
  no_memory : code ≡ memory → new ≡ old → reached ≡ old_reached →
      IsNextWithinCode pattern block budget old new old_reached reached code

-- the number of the matching lines that begin within the budget: these are all, or those before the offset at which the search
-- stops; or memory is refused, and nothing changes
pub data IsCountWithinCode (pattern : Tree) (block : List ℕ) (budget : Budget) (old new old_reached reached : ℕ) (code : ℤ) : Type 0 where
  counted : code ≡ done → HasNoStop block budget →
      ForEachTest pattern (λ has_match. new ≡ count_by has_match (lines (drop budget.from block))) →
      reached ≡ old_reached → IsCountWithinCode pattern block budget old new old_reached reached code
  counted_to : code ≡ stopped → IsStop block budget reached →
      ForEachTest pattern (λ has_match. new ≡ count_by has_match (lines (slice_range block budget.from reached))) →
      IsCountWithinCode pattern block budget old new old_reached reached code
  refused : code ≡ memory → new ≡ old → reached ≡ old_reached →
      IsCountWithinCode pattern block budget old new old_reached reached code
