-- Spans of skipped lines.
use Rattle.std.specs.Prelude.{ℕ, ◌≤◌, Bool, List, length, slice_range}
use Rattle.cs_match.specs.Lines.{terminated_lines}
use Rattle.cs_match.specs.Skipping.{AreWholeLines, NoneMatch}

-- the bytes between two offsets of the block are whole lines
pub record AreLinesBetween (block : List ℕ) (from to : ℕ) : Type 0 where
  pub low : from ≤ to
  pub high : to ≤ length block
  pub whole : AreWholeLines (slice_range block from to)

-- the bytes between two offsets of the block are whole lines, and none of them matches by any test that
-- satisfies `IsKind`
pub record AreSkipped (IsKind : (List ℕ → Bool) → Type 0) (block : List ℕ) (from to : ℕ) : Type 0 where
  pub lines : AreLinesBetween block from to
  pub none : (has_match : List ℕ → Bool) → IsKind has_match →
      NoneMatch has_match (terminated_lines (slice_range block from to))
