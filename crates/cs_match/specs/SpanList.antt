-- Lists of spans in a buffer.
use Rattle.std.specs.Prelude.{ℕ, ◌≡◌, ◌+◌, ◌≤◌, ◌⊎◌, Bool, not, List, length, map, take, drop}
use Rattle.cs_syntax.specs.Matching.{Tree}
use Rattle.cs_match.specs.Span.{AreSpansFrom}
use Rattle.cs_match.specs.SpanWork.{Finding}
use Rattle.cs_match.specs.declared.spans.Span.{Span}
use Rattle.cs_match.specs.declared.spans.ListedSpans.{ListedSpans}
use Rattle.cs_match.specs.declared.spans.pass.Pass.{Pass}

-- what contracts see of a program and its pass
abbrev pub finding_of : Tree → Pass → Finding
finding_of t pass = record { tree = t; bytes = pass.read.count; steps = pass.steps.count }

-- the first spans of a buffer, as pairs of offsets
abbrev pub first_spans : ℕ → List Span → List (ℕ × ℕ)
first_spans count buffer = map (λ span. (span.start, span.end)) (take count buffer)

-- The first matches of a line, and all of them unless the list was stopped. The rest of the buffer stays as it was.
pub record IsListing (whole : Bool) (t : Tree) (s : List ℕ) (old new : List Span) (listed : ListedSpans) : Type 0 where
  pub spans : AreSpansFrom (not listed.stopped) whole t s 0 0 (first_spans listed.count new)
  pub within : listed.count ≤ length old
  pub size : length new ≡ length old
  pub rest : drop listed.count new ≡ drop listed.count old

-- the buffer is full, or at least the bytes of the budget were read
abbrev pub IsUsedUp : ℕ → ℕ → ℕ → Finding → Finding → Type 0
IsUsedUp budget room count old new = (count ≡ room) ⊎ (old.bytes + budget ≤ new.bytes)

-- the buffer is full, or the budget has no bytes left
abbrev pub IsSpent : ℕ → ℕ → Pass → Type 0
IsSpent room count pass = (count ≡ room) ⊎ (pass.left ≡ 0)
