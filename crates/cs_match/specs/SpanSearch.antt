-- What a search for a span knows of the matches of a line.
use Rattle.std.specs.Prelude.{ℕ, ◌+◌, ◌<◌, ◌≤◌, Bool, List, Option, MatchOption}
use Rattle.cs_syntax.specs.Matching.{Tree}
use Rattle.cs_match.specs.Span.{IsMatchOf}

-- each match begins at or after `until`
abbrev pub BeginFrom : Bool → Tree → List ℕ → ℕ → ℕ → ℕ → Type 0
BeginFrom whole t s from least until = (start end : ℕ) → IsMatchOf whole t s from least start end → until ≤ start

-- each match that begins before `until` ends at or after this offset
abbrev pub EndFrom : Bool → Tree → List ℕ → ℕ → ℕ → ℕ → ℕ → Type 0
EndFrom whole t s from least until offset =
    (start end : ℕ) → IsMatchOf whole t s from least start end → start < until → offset ≤ end

-- the last end before this offset of a match that begins at `from`, if there is one
abbrev pub IsLastEnd : Bool → Tree → List ℕ → ℕ → ℕ → ℕ → Option ℕ → Type 0
IsLastEnd whole t s from least offset last =
    MatchOption last (EndFrom whole t s from least (from + 1) offset)
    (λ last. IsMatchOf whole t s from least from last
    × ((end : ℕ) → IsMatchOf whole t s from least from end → end < offset → end ≤ last))

-- a match that begins before `until` ends at `end`
abbrev pub EndsAt : Bool → Tree → List ℕ → ℕ → ℕ → ℕ → ℕ → Type 0
EndsAt whole t s from least until end = (start : ℕ) × (start < until) × IsMatchOf whole t s from least start end

-- a match begins at this offset
abbrev pub BeginsAt : Bool → Tree → List ℕ → ℕ → ℕ → ℕ → Type 0
BeginsAt whole t s from least start = (end : ℕ) × IsMatchOf whole t s from least start end

-- a match begins at or before this offset
abbrev pub BeginsBy : Bool → Tree → List ℕ → ℕ → ℕ → ℕ → Type 0
BeginsBy whole t s from least last = (start : ℕ) × (start ≤ last) × BeginsAt whole t s from least start
