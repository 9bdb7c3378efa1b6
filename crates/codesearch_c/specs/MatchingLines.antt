-- The matching lines of a block. docs/PATTERNS.md, "Lines".
use Rattle.std.specs.Prelude.{ℕ, ◌≡◌, ◌+◌, Bool, if◌then◌else◌, List, [], ◌∷◌, ◌++◌, length, drop, Option, MatchOption}
use Rattle.cs_syntax.specs.Matching.{Tree}
use Rattle.cs_match.specs.Deciding.{Decides}
use Rattle.cs_match.specs.Lines.{lines}
use Rattle.codesearch_c.specs.declared.lines.LineBounds.{LineBounds}
use Rattle.codesearch_c.specs.Copies.{filled_with}

-- the offsets of the lines that match by the test, if the first line begins at `start`
abbrev pub matching_from : (List ℕ → Bool) → ℕ → List (List ℕ) → List LineBounds
matching_from has_match start [] = []
matching_from has_match start (line ∷ lines) =
    let end = start + length line in
    let rest = matching_from has_match (end + 1) lines in
    if has_match line then record { start = start; end = end } ∷ rest else rest

-- the matching lines of a block from an offset on
unfoldable pub matching_lines : (List ℕ → Bool) → List ℕ → ℕ → List LineBounds
matching_lines has_match block from = matching_from has_match from (lines (drop from block))

-- what holds of each test that decides whether a line has a match; there is one for each tree (`MatchingIsDecidable`)
abbrev pub ForEachTest : Tree → ((List ℕ → Bool) → Type 0) → Type 0
ForEachTest tree Holds = (has_match : List ℕ → Bool) → Decides has_match tree → Holds has_match

-- the first matching line from an offset on, which the others follow; or there is none
abbrev pub IsFirstLine : Tree → List ℕ → ℕ → Option LineBounds → Type 0
IsFirstLine tree block from found = ForEachTest tree (λ has_match. MatchOption found (matching_lines has_match block from ≡ [])
    (λ line. matching_lines has_match block from ≡ line ∷ matching_lines has_match block (line.end + 1)))

-- the number of all matching lines, and a buffer with those for which there is room
abbrev pub IsListing : Tree → List ℕ → List LineBounds → List LineBounds → ℕ → Type 0
IsListing tree block old new count = ForEachTest tree (λ has_match.
    (count ≡ length (matching_lines has_match block 0)) × (new ≡ filled_with (matching_lines has_match block 0) old))

-- the matching lines before an offset are listed
pub record AreListedTo (has_match : List ℕ → Bool) (block : List ℕ) (old new : List LineBounds) (count offset : ℕ) : Type 0 where
  pub found : List LineBounds
  pub all : matching_lines has_match block 0 ≡ found ++ matching_lines has_match block offset
  pub number : count ≡ length found
  pub filled : new ≡ filled_with found old
