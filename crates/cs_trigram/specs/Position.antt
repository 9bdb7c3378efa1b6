-- A position in a file that is being scanned.
use Rattle.std.specs.Prelude.{◌≡◌, ℕ, ◌+◌, ◌^◌, ◌<◌, ◌≤◌, List, ◌++◌, length, Result, Some, None, MatchResult}
use Rattle.cs_trigram.specs.declared.scan.Limits.{Limits}
use Rattle.cs_trigram.specs.declared.position.TextPosition.{TextPosition}
use Rattle.cs_trigram.specs.declared.scan.Reason.{Reason}
use Rattle.cs_trigram.specs.Text.{last_byte, line_so_far, first_broken}

-- the limits are so small that sums of them do not overflow
pub record AreSmallLimits (most : Limits) : Type 0 where
  pub bytes : most.bytes < 2 ^ 32
  pub line : most.line < 2 ^ 32
  pub trigrams : most.trigrams < 2 ^ 32

-- the position is the one after these bytes
pub record IsPositionAfter (position : TextPosition) (prefix : List ℕ) : Type 0 where
  pub count : position.count ≡ length prefix
  pub column : position.column ≡ length (line_so_far prefix)
  pub before : position.before ≡ last_byte prefix

-- the position is n bytes after another, within the limit
abbrev pub IsAdvancedBy : Limits → TextPosition → ℕ → TextPosition → Type 0
IsAdvancedBy most position n next = (next.count ≡ position.count + n) × (next.count ≤ most.bytes)

-- the bytes after the prefix break no rule, and the answer is the position after them; or the answer is the
-- first broken rule
abbrev pub Validates : Limits → List ℕ → List ℕ → Result TextPosition Reason → Type 0
Validates most prefix bytes answer =
    MatchResult answer
    (λ next. (first_broken most prefix bytes ≡ None) × IsPositionAfter next (prefix ++ bytes))
    (λ reason. first_broken most prefix bytes ≡ Some reason)

-- the same for each prefix that ends at the position
abbrev pub ValidatesFrom : Limits → TextPosition → List ℕ → Result TextPosition Reason → Type 0
ValidatesFrom most position bytes answer =
    (prefix : List ℕ) → IsPositionAfter position prefix → Validates most prefix bytes answer
