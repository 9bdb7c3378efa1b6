-- Parts of a block of whole lines.
use Rattle.std.specs.Prelude.{ℕ, ◌≡◌, ◌≤◌, Bool, true, List, drop, length, slice_range, take, Option, MatchOption}
use Rattle.cs_match.specs.Lines.{terminated_lines}
use Rattle.cs_match.specs.Skipping.{AreWholeLines, NoneMatch}
use Rattle.cs_match.specs.declared.matcher.Line.{Line}

-- the length of the first `count` lines of a block
pub record IsFirstLines (count : ℕ) (block : List ℕ) (len : ℕ) : Type 0 where
  pub within : len ≤ length block
  pub whole : AreWholeLines (take len block)
  pub rest : terminated_lines (drop len block) ≡ drop count (terminated_lines block)

-- the first line at or after an offset that passes the test; none if none does
abbrev pub IsNext : (List ℕ → Bool) → List ℕ → ℕ → Option Line → Type 0
IsNext test block from next = MatchOption next (NoneMatch test (terminated_lines (drop from block)))
    (λ line. (test (slice_range block line.start line.end) ≡ true)
    × NoneMatch test (terminated_lines (slice_range block from line.start)))
