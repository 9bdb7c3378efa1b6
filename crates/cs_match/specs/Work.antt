-- The work of a search, in steps. A step is a part of the program visited, a word of 64 positions moved or compared, a
-- position tested for a mask, a place at which a state is looked for, or a transition read, computed or written. In a block it
-- is also a byte that is searched for a newline, or one that a lane reads, and a step of the prefilter (`OffsetWork`).
-- docs/PROMISES.md, "Work".
use Rattle.std.specs.Prelude.{ℕ, ◌+◌, ◌-◌, ◌*◌, ◌/◌, ◌≤◌, Option, Some, None}
use Rattle.cs_syntax.specs.Matching.{Tree}
use Rattle.cs_prefilter.specs.OffsetWork.{offset_work}
use Rattle.cs_match.specs.declared.matcher.Line.{Line}
use Rattle.cs_match.specs.Glushkov.{position_count}
use Rattle.cs_match.specs.Size.{nodes}
use Rattle.cs_match.specs.Automaton.{Automaton}

-- the words of a set of so many positions
abbrev pub words : ℕ → ℕ
words count = (count + 63) / 64

-- the most steps of the automaton over a byte: two traversals, the entries, a mask, and the positions that it moves
abbrev pub step_work : Tree → ℕ
step_work t = 2 * nodes t + position_count t + 2 * words (position_count t) + 1

-- A call takes at most so much work. The counter never falls, so that no step is taken back.
abbrev pub WorksWithin : ℕ → Automaton → Automaton → Type 0
WorksWithin bound old new = (old.steps ≤ new.steps) × (new.steps ≤ old.steps + bound)

-- The most steps of the lazy DFA over a byte: the step of the automaton; the new state copied twice, tested, hashed and
-- compared with at most eight cached ones; its row of at most 256 transitions; and the first five rows, to which the
-- table is cleared.
abbrev pub byte_work : Tree → ℕ
byte_work t = step_work t + 12 * (words (position_count t) + 1) + 6 * 256

-- the most steps of a line of so many bytes, which are scanned, and simulated once more if one of them is a newline
abbrev pub line_work : Tree → ℕ → ℕ
line_work t bytes = 2 * ((bytes + 1) * byte_work t)

-- the most steps of a list of matching lines over a byte: an offset of the prefilter and a byte of a line around a candidate,
-- and a byte of a line that is scanned, at most twice
abbrev pub listed_byte_work : Tree → ℕ
listed_byte_work t = byte_work t + 2 * offset_work

-- the most steps of the list of the matching lines of so many bytes
abbrev pub list_work : Tree → ℕ → ℕ
list_work t bytes = bytes * listed_byte_work t

-- the most steps of the search for the next matching line over a byte, which is read once more for the start of the line
abbrev pub searched_byte_work : Tree → ℕ
searched_byte_work t = listed_byte_work t + 1

-- the most steps of the search for the next matching line over so many bytes
abbrev pub search_work : Tree → ℕ → ℕ
search_work t bytes = bytes * searched_byte_work t

-- the bytes that are searched from an offset on: up to the end of the line that is found, with its newline, or up to
-- another offset if none is found
abbrev pub searched_bytes : ℕ → ℕ → Option Line → ℕ
searched_bytes from to None = to - from
searched_bytes from to (Some line) = line.end + 1 - from
