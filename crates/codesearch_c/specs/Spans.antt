-- What the calls answer that say where in a line a pattern matches. docs/PATTERNS.md, "Where a match is".
use Rattle.std.specs.Prelude.{◌≡◌, ℕ, ◌<◌, ◌≤◌, ◌⊎◌, ℤ, pos, Bool, List, length, nat_eq, count_by, slice_range}
use Rattle.cs_match.specs.Lines.{newline}
use Rattle.cs_syntax.specs.Matching.{Tree}
use Rattle.cs_match.specs.Span.{IsFirstOf, HasNoMatchOf}
use Rattle.cs_match.specs.SpanList.{IsListing}
use Rattle.cs_match.specs.declared.spans.Span.{Span}
use Rattle.codesearch_c.specs.Codes.{done, misuse, list_code}

-- 1 and the first match; or the span stays, and the code is 0 and there is none, or the search begins after the line.
pub data IsSpanCode (whole : Bool) (pattern : Tree) (line : List ℕ) (from least : ℕ) (old new : Span) (code : ℤ) : Type 0 where
  found : code ≡ pos 1 → IsFirstOf whole pattern line from least new.start new.end →
      IsSpanCode whole pattern line from least old new code
  none : code ≡ pos 0 → from ≤ length line → HasNoMatchOf whole pattern line from least → new ≡ old →
      IsSpanCode whole pattern line from least old new code
  beyond : code ≡ misuse → length line < from → new ≡ old → IsSpanCode whole pattern line from least old new code

-- the matches of a line in a buffer: all of them, or the first ones
abbrev pub IsSpansCode : Bool → Tree → List ℕ → List Span → List Span → ℕ → ℤ → Type 0
IsSpansCode whole pattern line old new count code =
    (is_stopped : Bool) × IsListing whole pattern line old new (record { count = count; stopped = is_stopped })
    × (code ≡ list_code is_stopped)

-- the number of newlines between two offsets of a text; or the offsets are none of it, and the count stays
pub data IsNewlinesCode (text : List ℕ) (from to old new : ℕ) (code : ℤ) : Type 0 where
  counted : code ≡ done → from ≤ to → to ≤ length text → new ≡ count_by (λ b. nat_eq b newline) (slice_range text from to) →
      IsNewlinesCode text from to old new code
  outside : code ≡ misuse → ((to < from) ⊎ (length text < to)) → new ≡ old → IsNewlinesCode text from to old new code
