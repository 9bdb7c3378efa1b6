-- How long an index is at least, whatever is added to it.
use Rattle.std.specs.Prelude.{ℕ, ◌+◌, List, [], ◌∷◌, length}
use Rattle.cs_index.specs.Encoding.{Entry}

-- The encoding without its paths, its list index, and the trigrams and zeros of its lists, if each delta has one byte.
-- An index without names has 62 bytes. A name has its text, a NUL, an offset, and a byte in the list of each trigram.
abbrev pub least_length : List Entry → ℕ
least_length [] = 62
least_length ((name, trigrams) ∷ entries) = length name + 5 + length trigrams + least_length entries
