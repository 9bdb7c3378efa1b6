-- Lines that may be the first with a word of a prefilter.
use Rattle.std.specs.Prelude.{ℕ, List, drop, slice_range, Option, Some, None, All}
use Rattle.cs_prefilter.specs.declared.word.Word.{Word}
use Rattle.cs_prefilter.specs.WordAt.{HasWord, with_newline}
use Rattle.cs_match.specs.declared.matcher.Line.{Line}
use Rattle.cs_match.specs.Lines.{terminated_lines}
use Rattle.cs_match.specs.Skipping.{IsLineAfter}

-- none of the lines, with its newline, contains one of the words
abbrev pub LackWords : List Word → List (List ℕ) → Type 0
LackWords words lines = All (λ line. ¬ HasWord words (with_newline line)) lines

-- a line of the block at or after `from`, such that none from there up to it contains a word
pub record IsCandidateLine (words : List Word) (block : List ℕ) (from start end : ℕ) : Type 0 where
  pub line : IsLineAfter block from start end
  pub lack : LackWords words (terminated_lines (slice_range block from start))

-- the search of the prefilter gives such a line, or none if no line of the rest contains a word
abbrev pub IsCandidate : List Word → List ℕ → ℕ → Option Line → Type 0
IsCandidate words block from None = LackWords words (terminated_lines (drop from block))
IsCandidate words block from (Some line) = IsCandidateLine words block from line.start line.end
