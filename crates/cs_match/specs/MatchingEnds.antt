-- The list of the matching lines of a block: the offsets of their newlines. docs/PATTERNS.md, "Lines".
use Rattle.std.specs.Prelude.{ℕ, nat_eq, ◌-◌, Bool, ◌&&◌, List, slice_index, slice_range, count_by}
use Rattle.std.specs.List.{filter, range_with_len}
use Rattle.cs_match.specs.Lines.{newline}
use Rattle.cs_match.specs.LastPart.{last_part}

-- a matching line of the lines from `from` on ends at the offset
abbrev pub is_matching_end : (List ℕ → Bool) → List ℕ → ℕ → ℕ → Bool
is_matching_end has_match block from end =
    nat_eq (slice_index block end) newline && has_match (last_part (slice_range block from end))

-- the ends of the matching lines between two offsets of the block, in ascending order
unfoldable pub matching_ends : (List ℕ → Bool) → List ℕ → ℕ → ℕ → List ℕ
matching_ends has_match block from to = filter (is_matching_end has_match block from) (range_with_len from (to - from))

-- how many newlines are between two offsets
abbrev pub newlines_between : List ℕ → ℕ → ℕ → ℕ
newlines_between block from to = count_by (λ b. nat_eq b newline) (slice_range block from to)
