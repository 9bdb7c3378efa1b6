-- The work of a prefilter at an offset of a text, in steps. A step is an offset skipped, a word compared (its first eight
-- bytes and the byte before them), or a byte set of a word tested. docs/PROMISES.md, "Work".
use Rattle.std.specs.Prelude.{ℕ, ◌+◌, ◌*◌}

-- the most words of a prefilter
abbrev pub most_words : ℕ
most_words = 64

-- the most byte sets of a word
abbrev pub most_sets : ℕ
most_sets = 32

-- the most steps of a word that is compared
abbrev pub word_work : ℕ
word_work = 1 + most_sets

-- the most steps of a candidate, where each word may be compared
abbrev pub candidate_work : ℕ
candidate_work = most_words * word_work

-- the most steps at an offset, which is skipped or is a candidate
abbrev pub offset_work : ℕ
offset_work = 1 + candidate_work

-- the offsets of a stride, which are probed at once
abbrev pub stride : ℕ
stride = 64

-- The most steps of the list of so many lines of so many bytes. Each offset is decided, and each byte searched for the end
-- of a line. Two strides are probed again for each line, and two at the end of the text.
abbrev pub list_work : ℕ → ℕ → ℕ
list_work bytes lines = bytes * (offset_work + 1) + (lines + 1) * (2 * stride)
